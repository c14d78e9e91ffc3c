-- The cutting of a settled record is unique.
use Rattle.std.proofs.Common.{◌≡◌, ℕ, Bool, true, List, [], ◌∷◌, ◌++◌, Option, Some, None, ◌⊎◌, inl, inr, refl, sym}
use Rattle.std.proofs.Common.{◌∙◌, ap, subst, append_assoc, map}
use Rattle.std.proofs.lemmas.List.{append_cancel_left, append-nil}
use Rattle.std.specs.Option.{option_and_then}
use Rattle.std.specs.Prelude.{slice_get, is_some, flat_map}
use Rattle.react_core.specs.declared.outside.Event.{Event}
use Rattle.react_core.specs.declared.outside.Event.TheVariants as event
use Rattle.react_core.specs.declared.outside.WaitAnswer.{WaitAnswer}
use Rattle.bus_record.specs.Pieces.{reading_told}
use Rattle.react_core.specs.Round.{reports_of, is_quiet}
use Rattle.bus_session.specs.declared.session.Session.{Session}
use Rattle.bus_record.specs.Pieces.{Round, Piece, visit, round, Pieces, nothing, ◌▸◌, events_of, told}
use Rattle.bus_record.specs.Places.{key_of}
use Rattle.bus_record.specs.Visits.{Here, here, here_by, Stage, finished, goes_on, Visit, next, starts}
use Rattle.bus_record.specs.Settled.{Run, start, Numbered, numbered, IsRound, rearming, removal, closing, sleepers}
use Rattle.bus_record.specs.Settled.{Settled}
use Rattle.bus_record.specs.Laws.{OneCutting}
use Rattle.bus_record.proofs.RunLemmas.{was_visited, was_turned}

-- ---- lists

heads : {A : Type 0} (x y : A) (xs ys : List A) → x ∷ xs ≡ y ∷ ys → x ≡ y
heads x y xs ys e = cc

tails : {A : Type 0} (x y : A) (xs ys : List A) → x ∷ xs ≡ y ∷ ys → xs ≡ ys
tails x y xs ys e = cc

nil-not-cons : {A : Type 0} (x : A) (xs : List A) → [] ≡ x ∷ xs → ⊥
nil-not-cons x xs e = cc

cons-not-nil : {A : Type 0} (x : A) (xs : List A) → x ∷ xs ≡ [] → ⊥
cons-not-nil x xs e = cc

some-inj : {A : Type 0} (x y : A) → Some x ≡ Some y → x ≡ y
some-inj x y e = cc

pub none-not-some : {A : Type 0} (x : A) → None ≡ Some x → ⊥
none-not-some x e = cc

-- ---- a visit

pub goes_on-none : (s : Session) (wire : ℕ) (h : Here) (events : List Event) → goes_on s wire h None events ≡ None
goes_on-none s wire h [] = refl
goes_on-none s wire h (e ∷ events) = goes_on-none s wire (here_by h e) events

-- a finished visit takes no further event
stays_finished : (s : Session) (wire : ℕ) (h : Here) (stage : Option Stage) (e : Event) (events : List Event) →
    stage ≡ Some finished →
    goes_on s wire h stage (e ∷ events) ≡ Some finished → ⊥
stays_finished s wire h stage e events is g =
    let g' : goes_on s wire h (Some finished) (e ∷ events) ≡ Some finished =
    subst (λ x. goes_on s wire h x (e ∷ events) ≡ Some finished) is g in
    none-not-some finished (sym (goes_on-none s wire (here_by h e) events) ∙ g')

-- of two visits that begin alike, where what follows is alike, neither is longer
pub same_visit : (s : Session) (wire : ℕ) (h : Here) (stage : Option Stage) (v w x y : List Event) →
    goes_on s wire h stage v ≡ Some finished →
    goes_on s wire h stage w ≡ Some finished → v ++ x ≡ w ++ y → v ≡ w
same_visit s wire h stage [] [] x y g k e = refl
same_visit s wire h stage [] (b ∷ w) x y g k e = absurd (stays_finished s wire h stage b w g k)
same_visit s wire h stage (a ∷ v) [] x y g k e = absurd (stays_finished s wire h stage a v k g)
same_visit s wire h stage (a ∷ v) (b ∷ w) x y g k e =
    let head : a ≡ b = heads a b (v ++ x) (w ++ y) e in
    let k' : goes_on s wire h stage (a ∷ w) ≡ Some finished =
    subst (λ z. goes_on s wire h stage (z ∷ w) ≡ Some finished) (sym head) k in
    let rest : v ≡ w =
    same_visit s wire (here_by h a) (option_and_then (λ reached. next s wire h reached a) stage) v w x y g k'
    (tails a b (v ++ x) (w ++ y) e) in
    cc

-- ---- a round

some-not-none : {A : Type 0} (x : A) (b : Bool) → is_some (Some x) ≡ b → is_some {T = A} None ≡ b → ⊥
some-not-none x b e f = cc

now-inj : (t u : ℕ) → event.Now t ≡ event.Now u → t ≡ u
now-inj t u e = cc

wait-inj : (d d' : Option ℕ) (a a' : WaitAnswer) → event.Wait d a ≡ event.Wait d' a' → (d ≡ d') × (a ≡ a')
wait-inj d d' a a' e = (cc, cc)

-- two readings that are there or not alike, before what is alike
same_reading : (one two : Option ℕ) (b : Bool) (x y : List Event) → is_some one ≡ b → is_some two ≡ b →
    reading_told one ++ x ≡ reading_told two ++ y → one ≡ two
same_reading None None b x y h k e = refl
same_reading None (Some u) b x y h k e = absurd (some-not-none u b k h)
same_reading (Some t) None b x y h k e = absurd (some-not-none t b h k)
same_reading (Some t) (Some u) b x y h k e = ap Some (now-inj t u (heads (event.Now t) (event.Now u) x y e))

same_parts : (r q : Round) → r.first ≡ q.first → r.timeout ≡ q.timeout → r.answer ≡ q.answer → r.second ≡ q.second →
    r.rearmed ≡ q.rearmed → r ≡ q
same_parts r q a b c d e = λ i. record { first = a i; timeout = b i; answer = c i; second = d i; rearmed = e i }

pub same_round : (sessions : List Session) (past : Pieces) (r q : Round) (x y : List Event) → IsRound sessions past r →
    IsRound sessions past q →
    events_of (round r) ++ x ≡ events_of (round q) ++ y → r ≡ q
same_round sessions past r q x y h k e =
    let rx : List Event = (reading_told r.second ++ r.rearmed) ++ x in
    let qy : List Event = (reading_told q.second ++ q.rearmed) ++ y in
    let first : r.first ≡ q.first =
    now-inj r.first q.first
    (heads (event.Now r.first) (event.Now q.first) (event.Wait r.timeout r.answer ∷ rx) (event.Wait q.timeout q.answer
    ∷ qy) e) in
    let e' : event.Wait r.timeout r.answer ∷ rx ≡ event.Wait q.timeout q.answer ∷ qy =
    tails (event.Now r.first) (event.Now q.first) (event.Wait r.timeout r.answer ∷ rx) (event.Wait q.timeout q.answer
    ∷ qy) e in
    let w : (r.timeout ≡ q.timeout) × (r.answer ≡ q.answer) =
    wait-inj r.timeout q.timeout r.answer q.answer
    (heads (event.Wait r.timeout r.answer) (event.Wait q.timeout q.answer) rx qy e') in
    let e'' : rx ≡ qy = tails (event.Wait r.timeout r.answer) (event.Wait q.timeout q.answer) rx qy e' in
    let quiet : is_quiet r.timeout r.answer ≡ is_quiet q.timeout q.answer = cc (w.0, w.1) in
    let read : is_some q.second ≡ is_quiet r.timeout r.answer = k.read ∙ sym quiet in
    let flat : reading_told r.second ++ (r.rearmed ++ x) ≡ reading_told q.second ++ (q.rearmed ++ y) =
    sym (append_assoc (reading_told r.second) r.rearmed x) ∙ (e'' ∙ append_assoc (reading_told q.second) q.rearmed y) in
    let second : r.second ≡ q.second =
    same_reading r.second q.second (is_quiet r.timeout r.answer) (r.rearmed ++ x) (q.rearmed ++ y) h.read read flat in
    let armed : r.rearmed ≡ q.rearmed = h.rearmed ∙ (ap (λ a. rearming past [] (reports_of a)) w.1 ∙ sym k.rearmed) in
    same_parts r q first w.0 w.1 second armed

-- ---- what comes next in a run

pub was_started : {sessions : List Session} {rounds : ℕ} {wires : List ℕ} → Run sessions rounds nothing wires →
    wires ≡ map (λ n. n.wire) (numbered 0 sessions)
was_started start = refl

-- the pieces so far say which wires are still to be visited
pub same_left : {sessions : List Session} {n m : ℕ} (p : Pieces) {wires others : List ℕ} → Run sessions n p wires →
    Run sessions m p others → wires ≡ others
same_left nothing run other = was_started run ∙ sym (was_started other)
same_left (past ▸ visit w v) {wires} {others} run other =
    tails w w wires others (same_left past (was_visited run).run (was_visited other).run)
same_left (past ▸ round r) run other = (was_turned run).left ∙ sym (was_turned other).left

-- a piece that may come next
pub same_piece : (sessions : List Session) (n m : ℕ) (past : Pieces) (p q : Piece) (wires others : List ℕ)
    (x y : List Event) →
    Run sessions n (past ▸ p) wires → Run sessions m (past ▸ q) others → events_of p ++ x ≡ events_of q ++ y → p ≡ q
same_piece sessions n m past (visit w v) (visit w' v') wires others x y run other e =
    let a = was_visited run in
    let b = was_visited other in
    let left : w ∷ wires ≡ w' ∷ others = same_left past a.run b.run in
    let wire : w ≡ w' = heads w w' wires others left in
    let session : a.session ≡ b.session =
    some-inj a.session b.session (sym a.is_there ∙ (ap (slice_get sessions) wire ∙ b.is_there)) in
    let vis : Visit a.session w past v' =
    subst (λ s. Visit s w past v') (sym session) (subst (λ u. Visit b.session u past v') (sym wire) b.visits) in
    let same : v ≡ v' = same_visit a.session w (here w past) (starts a.session w past) v v' x y a.visits vis e in
    cc
same_piece sessions n m past (visit w v) (round r) wires others x y run other e =
    absurd (cons-not-nil w wires (same_left past (was_visited run).run (was_turned other).run))
same_piece sessions n m past (round r) (visit w v) wires others x y run other e =
    absurd (nil-not-cons w others (same_left past (was_turned run).run (was_visited other).run))
same_piece sessions n m past (round r) (round q) wires others x y run other e =
    ap round (same_round sessions past r q x y (was_turned run).is_round (was_turned other).is_round e)

-- ---- one of two runs begins the other

-- the first pieces are the beginning of the others
data Begins (p : Pieces) : Pieces → Type 0 where
  same : Begins p p
  later : (past : Pieces) (piece : Piece) → Begins p past → Begins p (past ▸ piece)

-- another piece comes after them
abbrev Longer : Pieces → Pieces → Type 0
Longer p q = (piece : Piece) × Begins (p ▸ piece) q

-- two lists of pieces are the same, or one goes on where the other ends
abbrev Compared : Pieces → Pieces → Type 0
Compared p q = (p ≡ q) ⊎ (Longer p q ⊎ Longer q p)

no-begins : {past : Pieces} {piece : Piece} → Begins (past ▸ piece) nothing → ⊥
no-begins b = elim b [ ]

-- one piece more
more : (p q : Pieces) (piece : Piece) → p ≡ q → Begins (p ▸ piece) (q ▸ piece)
more p q piece e = subst (λ z. Begins (p ▸ piece) (z ▸ piece)) e same

split : {p q : Pieces} → Begins p q → (p ≡ q) ⊎ Longer p q
split same = inl refl
split {p} (later past piece b) = onward (split b)
  where
    onward : (p ≡ past) ⊎ Longer p past → (p ≡ past ▸ piece) ⊎ Longer p (past ▸ piece)
    onward (inl e) = inr (piece, more p past piece e)
    onward (inr h) = inr (h.0, later past piece h.1)

-- what is begun is a run too, and what follows it is told after it
record Reached (sessions : List Session) (n : ℕ) (p q : Pieces) : Type 0 where
  wires : List ℕ
  run : Run sessions n p wires
  rest : List Event
  after : told q ≡ told p ++ rest

pub run-back : {sessions : List Session} {n : ℕ} (past : Pieces) (piece : Piece) {wires : List ℕ} →
    Run sessions n (past ▸ piece) wires → (left : List ℕ) × Run sessions n past left
run-back past (visit w v) {wires} run = (w ∷ wires, (was_visited run).run)
run-back past (round r) run = ([], (was_turned run).run)

reach : {sessions : List Session} {n : ℕ} {p q : Pieces} {wires : List ℕ} → Begins p q → Run sessions n q wires →
    Reached sessions n p q
reach {p = p} {wires = wires} same run =
    record { wires = wires; run = run; rest = []; after = sym (append-nil (told p)) }
reach {p = p} (later past piece b) run =
    let r = reach b (run-back past piece run).1 in
    record {
      wires = r.wires;
      run = r.run;
      rest = r.rest ++ events_of piece;
      after = ap (λ es. es ++ events_of piece) r.after ∙ append_assoc (told p) r.rest (events_of piece);
    }

begun : (past : Pieces) (piece : Piece) → Compared nothing past → Compared nothing (past ▸ piece)
begun past piece (inl e) = inr (inl (piece, more nothing past piece e))
begun past piece (inr (inl h)) = inr (inl (h.0, later past piece h.1))
begun past piece (inr (inr h)) = absurd (no-begins h.1)

begins_all : (p : Pieces) → Compared nothing p
begins_all nothing = inl refl
begins_all (past ▸ piece) = begun past piece (begins_all past)

found : (p q : Pieces) → (p ≡ q) ⊎ Longer p q → Compared p q
found p q (inl e) = inl e
found p q (inr h) = inr (inl h)

onward : (sessions : List Session) (n m : ℕ) (past : Pieces) (piece : Piece) (q : Pieces) (wires others : List ℕ)
    (x y : List Event) →
    Run sessions n (past ▸ piece) wires → Run sessions m q others → told past ++ (events_of piece ++ x) ≡ told q ++ y →
    Compared past q → Compared (past ▸ piece) q
onward sessions n m past piece q wires others x y run other e (inl h) = inr (inr (piece, more q past piece (sym h)))
onward sessions n m past piece q wires others x y run other e (inr (inr h)) = inr (inr (h.0, later past piece h.1))
onward sessions n m past piece q wires others x y run other e (inr (inl h)) =
    let r = reach h.1 other in
    let flat : told q ++ y ≡ told past ++ (events_of h.0 ++ (r.rest ++ y)) =
    ap (λ es. es ++ y) r.after
    ∙ (append_assoc (told past ++ events_of h.0) r.rest y ∙ append_assoc (told past) (events_of h.0) (r.rest ++ y)) in
    let alike : piece ≡ h.0 = same_piece sessions n m past piece h.0 wires r.wires x (r.rest ++ y) run r.run
    (append_cancel_left (told past) (events_of piece ++ x) (events_of h.0 ++ (r.rest ++ y)) (e ∙ flat)) in
    found (past ▸ piece) q (split (subst (λ z. Begins (past ▸ z) q) (sym alike) h.1))

compare : (sessions : List Session) (n m : ℕ) (p q : Pieces) (wires others : List ℕ) (x y : List Event) →
    Run sessions n p wires → Run sessions m q others →
    told p ++ x ≡ told q ++ y → Compared p q
compare sessions n m nothing q wires others x y run other e = begins_all q
compare sessions n m (past ▸ piece) q wires others x y run other e =
    let back = run-back past piece run in
    let flat : told past ++ (events_of piece ++ x) ≡ told q ++ y =
    sym (append_assoc (told past) (events_of piece) x) ∙ e in
    onward sessions n m past piece q wires others x y run other flat
    (compare sessions n m past q back.0 others (events_of piece ++ x) y back.1 other flat)

-- ---- the end

now-not-delete : (t wire key : ℕ) (x y : List Event) → event.Delete wire key true ∷ x ≡ event.Now t ∷ y → ⊥
now-not-delete t wire key x y e = cc

removed_first : (wire : ℕ) (key : Option ℕ) (rest : List Event) (t : ℕ) (x : List Event) →
    (rest ≡ event.Now t ∷ x → ⊥) → removal wire key ++ rest ≡ event.Now t ∷ x → ⊥
removed_first wire None rest t x ih e = ih e
removed_first wire (Some key) rest t x ih e = now-not-delete t wire key rest x e

-- removals don't begin with a reading
no_reading : (past : Pieces) (ns : List Numbered) (t : ℕ) (x : List Event) →
    flat_map (λ n. removal n.wire (key_of n.wire past)) ns ≡ event.Now t ∷ x → ⊥
no_reading past [] t x e = nil-not-cons (event.Now t) x e
no_reading past (n ∷ ns) t x e =
    removed_first n.wire (key_of n.wire past) (flat_map (λ z. removal z.wire (key_of z.wire past)) ns) t x
    (no_reading past ns t x) e

-- a settled record doesn't go on
over : (sessions : List Session) (n m : ℕ) (p q : Pieces) (events : List Event) → Settled sessions n p events →
    Settled sessions m q events → Longer p q → ⊥
over sessions n m p q events s t (visit w v, b) =
    let r = reach b t.run in
    nil-not-cons w r.wires (same_left p s.run (was_visited r.run).run)
over sessions n m p q events s t (round r, b) =
    let reached = reach b t.run in
    let end : List Event = closing sessions q in
    let flat : told q ++ end ≡ told p ++ (events_of (round r) ++ (reached.rest ++ end)) =
    ap (λ es. es ++ end) reached.after
    ∙ (append_assoc (told p ++ events_of (round r)) reached.rest end
    ∙ append_assoc (told p) (events_of (round r)) (reached.rest ++ end)) in
    no_reading p (sleepers sessions p) r.first ((event.Wait r.timeout r.answer ∷ (reading_told r.second ++ r.rearmed))
    ++ (reached.rest ++ end))
    (append_cancel_left (told p) (closing sessions p) (events_of (round r) ++ (reached.rest ++ end)) (sym s.whole
    ∙ (t.whole ∙ flat)))

decided : (sessions : List Session) (n m : ℕ) (p q : Pieces) (events : List Event) → Settled sessions n p events →
    Settled sessions m q events → Compared p q → p ≡ q
decided sessions n m p q events s t (inl e) = e
decided sessions n m p q events s t (inr (inl h)) = absurd (over sessions n m p q events s t h)
decided sessions n m p q events s t (inr (inr h)) = absurd (over sessions m n q p events t s h)

pub one_cutting : (sessions : List Session) → OneCutting sessions
one_cutting sessions n m p q events s t =
    decided sessions n m p q events s t
    (compare sessions n m p q [] [] (closing sessions p) (closing sessions q) s.run t.run (sym s.whole ∙ t.whole))
