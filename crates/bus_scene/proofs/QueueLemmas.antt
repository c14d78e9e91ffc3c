-- The places of queues, and what they leave.
use Rattle.std.proofs.Common.{◌≡◌, ℕ, ◌+◌, ◌<◌, ◌≤◌, List, [], ◌∷◌, ◌++◌, length, drop, take, min, map, get_or, set}
use Rattle.std.proofs.Common.{refl, sym, arith}
use Rattle.std.proofs.lemmas.List.{drop_all, get_or-map, map-set}
use Rattle.std.proofs.lemmas.Grind.{common_steps}
use Rattle.std.proofs.Math.Seq.{drop-drop}
use Rattle.std.proofs.Common.{Result, Ok, Err}
use Rattle.std.specs.Prelude.{OnErr}
use Rattle.std.specs.Option.{option_map}
use Rattle.react_core.specs.declared.outside.RecvAnswer.{RecvAnswer}
use Rattle.react_core.specs.declared.outside.RecvAnswer.TheVariants as recv_answer
use Rattle.bus_scene.specs.Cursors.{cut, cut_next, bytes_in}
use Rattle.bus_scene.specs.Plays.{recv_left, after_recv}
use Rattle.bus_scene.specs.Queues.{next_answer, without_next, with_last}

-- the place after this one leaves one answer less
pub dropped_next : {X : Type 0} (xs : List X) (i : ℕ) → drop (i + 1) xs ≡ drop 1 (drop i xs)
dropped_next xs i = sym (drop-drop 1 i xs)

-- past the end there is nothing to go on to
pub dropped_end : {X : Type 0} (xs : List X) (i : ℕ) → length xs ≤ i → drop i xs ≡ drop 1 (drop i xs)
dropped_end xs i h = rw (drop_all i xs h) refl

-- one queue of all goes on
pub set_next : {Q X : Type 0} (f : Q → List X) (qs : List Q) (i : ℕ) (q d : Q) → i < length qs →
    f q ≡ drop 1 (f (get_or qs i d)) →
    map f (set qs i q) ≡ without_next (map f qs) i
set_next f qs i q d lt e = rw (map-set f qs i q, get_or-map f qs i d [] lt, e) refl

-- a queue that isn't there has nothing to go on to
pub no_next : {X : Type 0} (qs : List (List X)) (i : ℕ) → length qs ≤ i → qs ≡ without_next qs i
no_next qs i h = grind (arith, common_steps)

-- at most all of them
pub take_least : {X : Type 0} (n : ℕ) (xs : List X) → take (min n (length xs)) xs ≡ take n xs
take_least n xs = grind (arith, common_steps)

-- the next answer without its first bytes
pub next_cut : (count : ℕ) (xs : List RecvAnswer) →
    next_answer (cut_next count xs) ≡ option_map (cut count) (next_answer xs)
next_cut count [] = refl
next_cut count (a ∷ more) = refl

-- where fewer bytes are asked for than are left, the rest stays
pub bytes_stay : (asked used : ℕ) (xs : List RecvAnswer) → asked < bytes_in (next_answer (cut_next used xs)) →
    cut_next (used + asked) xs ≡ recv_left asked (next_answer (cut_next used xs)) (drop 1 (cut_next used xs))
bytes_stay asked used [] lt = let no : ⊥ = omega arith in absurd no
bytes_stay asked used (recv_answer.Got bytes ∷ more) lt = rw (drop-drop asked used bytes) (grind (arith, common_steps))
bytes_stay asked used (recv_answer.End ∷ more) lt = let no : ⊥ = omega arith in absurd no
bytes_stay asked used (recv_answer.NotReady ∷ more) lt = let no : ⊥ = omega arith in absurd no
bytes_stay asked used (recv_answer.Failed ∷ more) lt = let no : ⊥ = omega arith in absurd no

pub cut_none : (xs : List RecvAnswer) → cut_next 0 xs ≡ xs
cut_none [] = refl
cut_none (recv_answer.Got bytes ∷ more) = refl
cut_none (recv_answer.End ∷ more) = refl
cut_none (recv_answer.NotReady ∷ more) = refl
cut_none (recv_answer.Failed ∷ more) = refl

-- where all are asked for, the next answer goes
pub answer_goes : (asked used : ℕ) (xs : List RecvAnswer) → bytes_in (next_answer (cut_next used xs)) ≤ asked →
    cut_next 0 (drop 1 xs) ≡ recv_left asked (next_answer (cut_next used xs)) (drop 1 (cut_next used xs))
answer_goes asked used [] h = refl
answer_goes asked used (recv_answer.Got bytes ∷ more) h = rw (cut_none more) (grind (arith, common_steps))
answer_goes asked used (recv_answer.End ∷ more) h = cut_none more
answer_goes asked used (recv_answer.NotReady ∷ more) h = cut_none more
answer_goes asked used (recv_answer.Failed ∷ more) h = cut_none more

-- one session's read is taken
pub set_read : {Q : Type 0} (f : Q → List RecvAnswer) (qs : List Q) (i asked : ℕ) (q d : Q) → i < length qs →
    f q ≡ recv_left asked (next_answer (f (get_or qs i d))) (drop 1 (f (get_or qs i d))) →
    map f (set qs i q) ≡ after_recv asked (map f qs) i
set_read f qs i asked q d lt e = rw (map-set f qs i q, get_or-map f qs i d [] lt, e) refl

-- one list of all has one more item
pub set_last : {Q X : Type 0} (f : Q → List X) (qs : List Q) (i : ℕ) (q d : Q) (x : X) → i < length qs →
    f q ≡ f (get_or qs i d) ++ x ∷ [] →
    map f (set qs i q) ≡ with_last (map f qs) i x
set_last f qs i q d x lt e = rw (map-set f qs i q, get_or-map f qs i d [] lt, e) refl

pub on_err : {T E P : Type 0} (r : Result T E) → P → OnErr r P
on_err (Ok x) p = tt
on_err (Err e) p = p
