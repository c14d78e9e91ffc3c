-- The reports of a wait.
use Rattle.std.proofs.Common.{◌≡◌, ℕ, zero, suc, ◌&&◌, ◌+◌, ◌<◌, true, false, List, [], ◌∷◌, ◌++◌, length, take, drop}
use Rattle.std.proofs.Common.{map, Option, Some, None, Result, Ok, Err, refl, sym, ap, ◌∙◌, arith, eq-eqb, get_or}
use Rattle.std.specs.List.{filter_map, starts_with, cons_option}
use Rattle.std.specs.Option.{option_to_list}
use Rattle.std.specs.Prelude.{◌==◌, min, slice_index_or}
use Rattle.std.proofs.lemmas.Bool.{eqb-true}
use Rattle.std.proofs.lemmas.Grind.{common_steps}
use Rattle.std.proofs.lemmas.List.{take_more, append-nil, length-take}
use Rattle.std.proofs.lemmas.List.Elements.{filter_map-append}
use Rattle.react_core.specs.Told.{wait_told}
use Rattle.react_core.specs.declared.outside.Event.{Event}
use Rattle.react_core.specs.declared.outside.Event.TheVariants as event
use Rattle.react_core.specs.declared.outside.Fault.{Fault}
use Rattle.react_core.specs.declared.outside.Fault.TheVariants as fault
use Rattle.react_core.specs.declared.outside.Report.{Report}
use Rattle.react_core.specs.declared.outside.Waited.{Waited}
use Rattle.react_core.specs.declared.outside.WaitAnswer.{WaitAnswer}
use Rattle.react_core.specs.declared.outside.WaitAnswer.TheVariants as wait_answer
use Rattle.bus_script.specs.declared.line.Ready.{Ready}
use Rattle.bus_script.specs.declared.line.ReadySource.{ReadySource}
use Rattle.bus_script.specs.declared.line.ReadySource.TheVariants as source
use Rattle.bus_script.specs.declared.line.ScriptWait.{ScriptWait}
use Rattle.bus_script.specs.declared.line.ScriptWait.TheVariants as script_wait
use Rattle.react_core.specs.declared.outside.Rooms.{Rooms}
use Rattle.react_core.specs.declared.outside.Rooms.TheVariants as rooms
use Rattle.bus_scene.specs.declared.queues.Queue.{Queue}
use Rattle.bus_scene.specs.declared.queues.Answers.{Answers}
use Rattle.bus_scene.specs.Queues.{next_answer}
use Rattle.react_core.specs.Outer.{with_room}
use Rattle.bus_scene.specs.Lent.{plays-lent}
use Rattle.bus_scene.specs.Plays.{is_filled, IsLent, report_eq, key_named, report_with, report_of, reports_of}
use Rattle.bus_scene.specs.Plays.{source_key, is_wait_given, wait_given, Play, OnAnswer, GainsWait, AnswersWait}
use Rattle.bus_scene.specs.Cursors.{whole, left, script_of, rest_of, Plays, key_in, report_in}
use Rattle.bus_scene.proofs.PlayLemmas.{bool_eq-refl, only_if-true, plays_on}

pub report_eq-refl : (r : Report) → report_eq r r ≡ true
report_eq-refl r = λ i. eq-eqb r.key r.key refl i && (bool_eq-refl r.read i && bool_eq-refl r.write i)

-- a front of reports is one
pub is_front : (xs : List Report) (n : ℕ) → starts_with report_eq xs (take n xs) ≡ true
is_front xs zero = refl
is_front [] (suc n) = refl
is_front (x ∷ xs) (suc n) = λ i. report_eq-refl x i && is_front xs n i

pub filter_map-same : {X Y : Type 0} (f g : X → Option Y) (xs : List X) → ((x : X) → f x ≡ g x) →
    filter_map f xs ≡ filter_map g xs
filter_map-same f g [] same = refl
filter_map-same f g (x ∷ xs) same = rw (same x, filter_map-same f g xs same) refl

one_mapped : {Y : Type 0} (o : Option Y) → cons_option o [] ≡ option_to_list o
one_mapped None = refl
one_mapped (Some y) = refl

pub filter_map_more : {X Y : Type 0} (f : X → Option Y) (xs : List X) (i : ℕ) (d : X) → i < length xs →
    filter_map f (take i xs) ++ option_to_list (f (get_or xs i d)) ≡ filter_map f (take (i + 1) xs)
filter_map_more f xs i d lt =
    sym (ap (filter_map f) (take_more xs i d lt) ∙ filter_map-append f (take i xs) (get_or xs i d ∷ [])
    ∙ ap (λ ys. filter_map f (take i xs) ++ ys) (one_mapped (f (get_or xs i d))))

-- the keys say what the record says
pub key_is : (keys : List (Option ℕ)) (told : List Event) →
    ((session : ℕ) → session < length keys → slice_index_or keys session None ≡ source_key told session) →
    (s : ReadySource) → key_in keys s ≡ key_named (length keys) told s
key_is keys told are (source.Key key) = refl
key_is keys told are (source.Session i) = grind (arith, common_steps, are i)

pub reports_are : (keys : List (Option ℕ)) (told : List Event) →
    ((session : ℕ) → session < length keys → slice_index_or keys session None ≡ source_key told session) →
    (readies : List Ready) → filter_map (report_in keys) readies ≡ reports_of (length keys) told readies
reports_are keys told are readies =
    filter_map-same (report_in keys) (report_of (length keys) told) readies
    (λ r. ap (λ key. report_with key r) (key_is keys told are r.source))

pub reports_given : (keys : List (Option ℕ)) (told : List Event) (room : ℕ) (readies : List Ready)
    (reports : List Report) →
    ((session : ℕ) → session < length keys → slice_index_or keys session None ≡ source_key told session) →
    reports ≡ take room (filter_map (report_in keys) readies) →
    is_wait_given (length keys) told (Some (script_wait.Reported readies)) (wait_answer.Reported reports) ≡ true
reports_given keys told room readies reports are given =
    rw (given, reports_are keys told are readies) (is_front (reports_of (length keys) told readies) room)

pub plays_lent : (r : Rooms) (room : ℕ) (a : Answers) (told : List Event) (keys : List (Option ℕ)) (last : ℕ) →
    Plays r a told keys last → Plays (with_room r room) a told keys last
plays_lent r room a told keys last p = record {
  played = plays-lent r room (script_of a) (rest_of a) told p.played;
  reading = p.reading;
  sources = p.sources;
  sessions = p.sessions;
}

-- a wait that was just lent its room is among the waits
pub is_lent : (r : Rooms) (room : ℕ) → IsLent (with_room r room) room
is_lent rooms.Unwaited room = refl
is_lent (rooms.Each each) room =
    elim (each == room) as (λ b. (each == room) ≡ b → IsLent (with_room (rooms.Each each) room) room) [
      | true ↦ λ is. rw is (eqb-true each room is)
      | false ↦ λ is. rw is tt
    ] refl
is_lent rooms.Differ room = tt

-- where nothing is reported, the room is filled
pub filled_none : (r : Rooms) (room sessions : ℕ) (told : List Event) (answer : WaitAnswer) → IsLent r room →
    is_filled r sessions told None answer ≡ true
filled_none rooms.Unwaited room sessions told answer lent = absurd lent
filled_none (rooms.Each each) room sessions told answer lent = refl
filled_none rooms.Differ room sessions told answer lent = refl

pub filled_interrupted : (r : Rooms) (room sessions : ℕ) (told : List Event) (answer : WaitAnswer) → IsLent r room →
    is_filled r sessions told (Some script_wait.Interrupted) answer ≡ true
filled_interrupted rooms.Unwaited room sessions told answer lent = absurd lent
filled_interrupted (rooms.Each each) room sessions told answer lent = refl
filled_interrupted rooms.Differ room sessions told answer lent = refl

pub filled_failed : (r : Rooms) (room sessions : ℕ) (told : List Event) (answer : WaitAnswer) → IsLent r room →
    is_filled r sessions told (Some script_wait.Failed) answer ≡ true
filled_failed rooms.Unwaited room sessions told answer lent = absurd lent
filled_failed (rooms.Each each) room sessions told answer lent = refl
filled_failed rooms.Differ room sessions told answer lent = refl

filled_exact : (r : Rooms) (room sessions : ℕ) (told : List Event) (readies : List Ready) → IsLent r room →
    is_filled r sessions told (Some (script_wait.Reported readies))
    (wait_answer.Reported (take room (reports_of sessions told readies))) ≡ true
filled_exact rooms.Unwaited room sessions told readies lent = absurd lent
filled_exact (rooms.Each each) room sessions told readies lent =
    eq-eqb (length (take room (reports_of sessions told readies)))
    (min each (length (reports_of sessions told readies)))
    (rw lent (omega (arith, length-take room (reports_of sessions told readies))))
filled_exact rooms.Differ room sessions told readies lent = refl

pub filled_given : (r : Rooms) (keys : List (Option ℕ)) (told : List Event) (room : ℕ) (readies : List Ready)
    (reports : List Report) →
    IsLent r room → ((session : ℕ) → session < length keys →
    slice_index_or keys session None ≡ source_key told session) →
    reports ≡ take room (filter_map (report_in keys) readies) →
    is_filled r (length keys) told (Some (script_wait.Reported readies)) (wait_answer.Reported reports) ≡ true
filled_given r keys told room readies reports lent are given =
    rw (given, reports_are keys told are readies) (filled_exact r room (length keys) told readies lent)

pub plays_wait : {rooms : Rooms} (a : Answers) (waits : Queue ScriptWait) (told told' : List Event)
    (keys : List (Option ℕ)) (last : ℕ) (timeout : Option ℕ) (answer : WaitAnswer) → Plays rooms a told keys last →
    is_wait_given (length keys) told (next_answer (left a.waits)) answer ≡ true →
    is_filled rooms (length keys) told (next_answer (left a.waits)) answer ≡ true → left waits ≡ drop 1 (left a.waits) →
    whole waits ≡ whole a.waits →
    told' ≡ told ++ event.Wait timeout answer ∷ [] → Plays rooms (record a { waits = waits }) told' keys last
plays_wait {rooms} a waits told told' keys last timeout answer p given filled rest all now =
    let sessions : length (map left a.dials.items) ≡ length keys = grind (arith, common_steps, p.sessions) in
    rw now (plays_on a (record a { waits = waits }) told keys keys last (event.Wait timeout answer) p
    (only_if-true
    (is_wait_given (length (map left a.dials.items)) told (next_answer (left a.waits)) answer && is_filled rooms
    (length (map left a.dials.items)) told (next_answer (left a.waits)) answer)
    (record (rest_of a) { waits = drop 1 (left a.waits) })
    (rw (sessions, given) filled) ∙ ap (λ (n : List ScriptWait). Some (record (rest_of a) { waits = n })) (sym rest))
    (ap (λ (n : List ScriptWait). record (script_of a) { waits = n }) all)
    p.sources p.sessions)

-- the reports that a slice of this room is given
pub reports_exact : (keys : List (Option ℕ)) (told : List Event) (room : ℕ) (readies : List Ready)
    (reports : List Report) →
    ((session : ℕ) → session < length keys → slice_index_or keys session None ≡ source_key told session) →
    reports ≡ take room (filter_map (report_in keys) readies) →
    reports ≡ take room (reports_of (length keys) told readies)
reports_exact keys told room readies reports are given = given ∙ ap (take room) (reports_are keys told are readies)

gains_wait : (a : Answers) (told : List Event) (keys : List (Option ℕ)) (last room : ℕ) (timeout : Option ℕ)
    (after : Play) (start : Rooms) → Plays start a told keys last →
    after.told ≡ told ++ event.Wait timeout (wait_given room (length keys) told (next_answer (left a.waits))) ∷ [] →
    GainsWait room timeout (record { script = script_of a; rooms = start; told = told }) after
gains_wait a told keys last room timeout after start p now =
    let sessions : length keys ≡ length (map left a.dials.items) = grind (arith, common_steps, p.sessions) in (
      rest_of a,
      p.played,
      now ∙ ap (λ n. told ++ event.Wait timeout
          (wait_given room n told (next_answer (left a.waits))) ∷ []) sessions,
    )

-- a wait that told its answer has what the script has left
pub answers_wait : (a : Answers) (told : List Event) (keys : List (Option ℕ)) (last room : ℕ) (timeout : Option ℕ)
    (reports : List Report) (after : Play) (result : Result Waited Fault) (start : Rooms) →
    Plays start a told keys last → after.told ≡ told ++ wait_told timeout reports result →
    OnAnswer result (after.told ≡ told ++ event.Wait timeout
    (wait_given room (length keys) told (next_answer (left a.waits))) ∷ []) →
    AnswersWait room timeout (record { script = script_of a; rooms = start; told = told }) after result
answers_wait a told keys last room timeout reports after (Err fault.OutOfMemory) start p now exact =
    now ∙ append-nil told
answers_wait a told keys last room timeout reports after (Err fault.Failed) start p now exact =
    gains_wait a told keys last room timeout after start p exact
answers_wait a told keys last room timeout reports after (Ok v) start p now exact =
    gains_wait a told keys last room timeout after start p exact

-- what a wait gives, case by case
pub ruleset waits = (reports_given, reports_exact, filled_none, filled_interrupted, filled_failed, filled_given)
