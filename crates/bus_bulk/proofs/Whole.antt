-- The text of a bulk run is a script, and the script has no fault of the poller.
use Rattle.std.proofs.Common.{◌≡◌, ℕ, ◌^◌, ◌<◌, ◌≤◌, Bool, true, false, List, [], ◌∷◌, ◌++◌, map, length, fold, Ok}
use Rattle.std.proofs.Common.{refl, sym, ◌∙◌, subst, arith, append_assoc, ◌==◌}
use Rattle.std.specs.List.{list_all, flat_map}
use Rattle.std.specs.Option.{is_none}
use Rattle.std.proofs.lemmas.Bool.{and_parts, eqb-true}
use Rattle.std.proofs.lemmas.List.FromFn.{length-map-range_with_len}
use Rattle.bus_session.specs.declared.session.Session.{Session}
use Rattle.bus_script.specs.Laws.{IsForward}
use Rattle.bus_script.specs.Script.{script, empty, add, names_sessions}
use Rattle.bus_script.specs.declared.line.Answer.{Answer}
use Rattle.bus_script.specs.declared.line.Answer.TheVariants as answers
use Rattle.bus_script.specs.declared.line.Line.{Line}
use Rattle.bus_script.specs.declared.line.Line.TheVariants as lines
use Rattle.bus_script.specs.declared.reading.ScriptForm.TheVariants as forms
use Rattle.bus_scene.specs.Plays.{HasNoPollerFault}
use Rattle.bus_scene.specs.Queues.{Queues, enqueue, empty_queues, queues}
use Rattle.bus_printed.proofs.Cuts.{all_both}
use Rattle.bus_bulk.specs.declared.kind.Kind.TheVariants as kinds
use Rattle.bus_bulk.specs.declared.kind.Kind.{Kind}
use Rattle.bus_bulk.specs.Kinds.{kind_of, session_of}
use Rattle.bus_bulk.specs.Replies.{Reply, opens, refuses, gives, ends, replies_to, answer_of}
use Rattle.bus_bulk.specs.Bulk.{numbers, readings_by, session_readings, readings, bulk, session_lines, reply_lines}
use Rattle.bus_bulk.specs.Bulk.{reading_lines, bulk_lines, bulk_text}
use Rattle.bus_bulk.proofs.Spelled.{Spells, spells_both, added, text_says}
use Rattle.bus_bulk.proofs.Added.{so_far, sessions_added, answers_added, all_numbers, rests, forward_on}
use Rattle.bus_bulk.proofs.LineWords.{rounds_spelled, sessions_spelled, answers_spelled}
use Rattle.bus_bulk.proofs.Sizes.{text_size}

-- what the wires are answered, and what the clock says
abbrev wires : ℕ → List Answer
wires n = flat_map (λ i. map (answer_of i) (replies_to (kind_of i))) (numbers n)

abbrev clock : ℕ → List Answer
clock n = map answers.Now (readings n)

pub has_sessions : (n : ℕ) → length (bulk n).sessions ≡ n
unfolding bulk
has_sessions n = length-map-range_with_len (λ i. session_of (kind_of i)) 0 n

-- ---- what holds of each answer

each_answer : (p : Answer → Bool) (i : ℕ) → ((r : Reply) → p (answer_of i r) ≡ true) → (rs : List Reply) →
    list_all p (map (answer_of i) rs) ≡ true
each_answer p i each [] = refl
each_answer p i each (r ∷ rs) = rw (each r) (each_answer p i each rs)

each_wire : (p : Answer → Bool) (n : ℕ) → ((i : ℕ) → i < n → (r : Reply) → p (answer_of i r) ≡ true) →
    list_all p (wires n) ≡ true
each_wire p n each =
    all_numbers p (λ i. map (answer_of i) (replies_to (kind_of i))) n
    (λ i h. each_answer p i (each i h) (replies_to (kind_of i)))

each_reading : (p : Answer → Bool) → ((t : ℕ) → p (answers.Now t) ≡ true) → (ts : List ℕ) →
    list_all p (map answers.Now ts) ≡ true
each_reading p each [] = refl
each_reading p each (t ∷ ts) = rw (each t) (each_reading p each ts)

-- ---- each answer is for one of the sessions

named : (n i : ℕ) → i < n → (r : Reply) → names_sessions n (answer_of i r) ≡ true
unfolding answer_of
named n i h opens = grind arith
named n i h refuses = grind arith
named n i h (gives bytes) = grind arith
named n i h ends = grind arith

all_named : (n : ℕ) → list_all (names_sessions n) (wires n ++ clock n) ≡ true
all_named n =
    all_both (names_sessions n) (wires n) (clock n) (each_wire (names_sessions n) n (named n))
    (each_reading (names_sessions n) (λ t. refl) (readings n))

-- ---- the clock goes forward

still : (i : ℕ) (r : Reply) → rests (answer_of i r) ≡ true
unfolding answer_of
still i opens = refl
still i refuses = refl
still i (gives bytes) = refl
still i ends = refl

starting : (kind : Kind) → list_all (λ t. t == 0) (readings_by kind) ≡ true
starting kinds.Accepted = refl
starting kinds.AcceptedByBytes = refl
starting kinds.Serving = refl
starting kinds.Refused = refl
starting kinds.CutOff = refl
starting kinds.Unanswered = refl

from_zero : (ts : List ℕ) → list_all (λ t. t == 0) ts ≡ true →
    IsForward 0 (map answers.Now (ts ++ 0 ∷ 100 ∷ []))
from_zero [] h = (omega arith, (omega arith, tt))
from_zero (t ∷ ts) h =
    let parts = and_parts (t == 0) (list_all (λ u. u == 0) ts) h in
    let none : t ≡ 0 = eqb-true t 0 parts.0 in
    let after = map answers.Now (ts ++ 0 ∷ 100 ∷ []) in
    (omega arith, subst (λ v. IsForward v after) (sym none) (from_zero ts parts.1))

forward : (n : ℕ) → IsForward 0 (wires n ++ clock n)
unfolding readings session_readings
forward n =
    forward_on (wires n) (clock n) (each_wire rests n (λ i h r. still i r))
    (from_zero (session_readings n) (all_numbers (λ t. t == 0) (λ i. readings_by (kind_of i)) n
    (λ i h. starting (kind_of i))))

-- ---- the whole

-- the lines of the script: the round, the sessions and the answers
abbrev said : ℕ → List Line
said n = lines.Rounds 1 ∷ (map lines.Session (bulk n).sessions ++ map lines.Answer (bulk n).answers)

all_spelled : (n : ℕ) → n < 2 ^ 32 → Spells (bulk_lines n) (said n)
unfolding bulk_lines
all_spelled n small =
    let rest = map lines.Session (bulk n).sessions ++ map lines.Answer (bulk n).answers in
    let all = spells_both (session_lines n) (reply_lines n ++ reading_lines n) (map lines.Session (bulk n).sessions)
    (map lines.Answer (bulk n).answers) (sessions_spelled n) (answers_spelled n small) in (
      rounds_spelled,
      subst (λ v. Spells v rest) (sym (append_assoc (session_lines n) (reply_lines n) (reading_lines n))) all,
    )

after_rounds : (rest : List Line) → added empty (lines.Rounds 1 ∷ rest) ≡ added (so_far [] []) rest
unfolding add
after_rounds rest = refl

all_added : (sessions : List Session) (done : List Answer) → list_all (names_sessions (length sessions)) done ≡ true →
    IsForward 0 done →
    added empty (lines.Rounds 1 ∷ (map lines.Session sessions ++ map lines.Answer done)) ≡ Ok (so_far sessions done)
all_added sessions done names onward =
    after_rounds (map lines.Session sessions ++ map lines.Answer done)
    ∙ (sessions_added [] sessions (map lines.Answer done) ∙ answers_added sessions [] done names onward)

bulk_added : (n : ℕ) → added empty (said n) ≡ Ok (bulk n)
unfolding bulk
bulk_added n =
    let sessions = map (λ i. session_of (kind_of i)) (numbers n) in
    let count : length sessions ≡ n = length-map-range_with_len (λ i. session_of (kind_of i)) 0 n in
    all_added sessions (wires n ++ clock n)
    (subst (λ v. list_all (names_sessions v) (wires n ++ clock n) ≡ true) (sym count) (all_named n)) (forward n)

has_rounds : (n : ℕ) → is_none (bulk n).rounds ≡ false
unfolding bulk
has_rounds n = refl

pub is_script : (n : ℕ) → n ≤ 10000 → script forms.Play (bulk_text n) ≡ Ok (bulk n)
unfolding bulk_text
is_script n h =
    text_says (bulk_lines n) (said n) (bulk n) (all_spelled n (omega arith)) (bulk_added n) (text_size n h)
    (has_rounds n)

-- ---- no fault of the poller

-- an answer to a session or a reading, and none to the poller
abbrev spares : Answer → Bool
spares (answers.Dial i a) = true
spares (answers.Recv i a) = true
spares (answers.Send i a) = true
spares (answers.Now t) = true
spares _ = false

stays_sound : (q : Queues) (more : List Answer) → HasNoPollerFault q → list_all spares more ≡ true →
    HasNoPollerFault (fold enqueue q more)
stays_sound q [] sound h = sound
stays_sound q (answers.Dial i a ∷ more) sound h = stays_sound (enqueue q (answers.Dial i a)) more (record {
  adds = sound.adds;
  modifies = sound.modifies;
  deletes = sound.deletes;
  notifies = sound.notifies;
  waits = sound.waits;
}) h
stays_sound q (answers.Recv i a ∷ more) sound h = stays_sound (enqueue q (answers.Recv i a)) more (record {
  adds = sound.adds;
  modifies = sound.modifies;
  deletes = sound.deletes;
  notifies = sound.notifies;
  waits = sound.waits;
}) h
stays_sound q (answers.Send i a ∷ more) sound h = stays_sound (enqueue q (answers.Send i a)) more (record {
  adds = sound.adds;
  modifies = sound.modifies;
  deletes = sound.deletes;
  notifies = sound.notifies;
  waits = sound.waits;
}) h
stays_sound q (answers.Now t ∷ more) sound h = stays_sound (enqueue q (answers.Now t)) more (record {
  adds = sound.adds;
  modifies = sound.modifies;
  deletes = sound.deletes;
  notifies = sound.notifies;
  waits = sound.waits;
}) h
stays_sound q (_ ∷ more) sound h = absurd (cc)

spared : (i : ℕ) (r : Reply) → spares (answer_of i r) ≡ true
unfolding answer_of
spared i opens = refl
spared i refuses = refl
spared i (gives bytes) = refl
spared i ends = refl

all_spared : (n : ℕ) → list_all spares (wires n ++ clock n) ≡ true
all_spared n =
    all_both spares (wires n) (clock n) (each_wire spares n (λ i h r. spared i r))
    (each_reading spares (λ t. refl) (readings n))

begins_sound : (n : ℕ) → HasNoPollerFault (empty_queues n)
begins_sound n = record { adds = refl; modifies = refl; deletes = refl; notifies = refl; waits = refl }

pub no_poller_fault : (n : ℕ) → HasNoPollerFault (queues (length (bulk n).sessions) (bulk n).answers)
unfolding bulk
no_poller_fault n =
    stays_sound (empty_queues (length (bulk n).sessions)) (wires n ++ clock n)
    (begins_sound (length (bulk n).sessions)) (all_spared n)
