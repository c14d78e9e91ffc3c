-- The code's places of futures, and what contracts see of them.
use Rattle.std.proofs.Common.{◌≡◌, ◌+◌, ◌++◌, ℕ, suc, Bool, true, false, List, [], ◌∷◌, Option, Some, None, is_some, length, map, refl, sym, ap, ◌∙◌, arith, length-append}
use Rattle.std.proofs.lemmas.Bool.Decides.{nat_tests}
use Rattle.std.specs.Prelude.{◌==◌, nat_lt, if◌then◌else◌, ◌||◌}
use Rattle.std.specs.Option.{option_to_list}
use Rattle.slab.specs.Slab.{entries_from}
use Rattle.react_core.specs.declared.interest.Waiting.{Waiting}
use Rattle.react_core.specs.Keyed.{at_key, with_at, with_new_at, without_at, sum_at}
use Rattle.react_core.specs.Places.{Entry}
use Rattle.react_core.specs.Reports.{future_tasks, without_tasks}
use Rattle.react_core.specs.Sources.{some_task}
use Rattle.react_core.specs.Ticks.{entry_of, place_of, futures_of, taken_slot, slot_tasks}

pub length-futures_of : (places : List (ℕ × Waiting)) → length (futures_of places) ≡ length places
length-futures_of [] = refl
length-futures_of (w ∷ places) = ap suc (length-futures_of places)

place-if : (b : Bool) (w : Waiting) (rest : Option Waiting) (o : Option Entry) → o ≡ place_of rest →
    (if b then Some (entry_of w) else o) ≡ place_of (if b then Some w else rest)
place-if true w rest o is = refl
place-if false w rest o is = is

pub at_key-futures_of : (places : List (ℕ × Waiting)) (key : ℕ) → at_key (futures_of places) key ≡ place_of (at_key places key)
at_key-futures_of [] key = refl
at_key-futures_of (w ∷ places) key = place-if (w.0 == key) w.1 _ _ (at_key-futures_of places key)

futures_of-if : (b : Bool) (xs ys : List (ℕ × Waiting)) → futures_of (if b then xs else ys) ≡ (if b then futures_of xs else futures_of ys)
futures_of-if true xs ys = refl
futures_of-if false xs ys = refl

pub futures_of-with_at : (places : List (ℕ × Waiting)) (key : ℕ) (new : Waiting) → futures_of (with_at places key new) ≡ with_at (futures_of places) key (entry_of new)
futures_of-with_at [] key new = refl
futures_of-with_at (w ∷ places) key new =
    futures_of-if (w.0 == key) _ _ ∙ ap (λ rest. if w.0 == key then (key, entry_of new) ∷ futures_of places else (w.0, entry_of w.1) ∷ rest) (futures_of-with_at places key new)

pub futures_of-with_new_at : (places : List (ℕ × Waiting)) (key : ℕ) (new : Waiting) → futures_of (with_new_at places key new) ≡ with_new_at (futures_of places) key (entry_of new)
futures_of-with_new_at [] key new = refl
futures_of-with_new_at (w ∷ places) key new =
    futures_of-if (nat_lt key w.0) _ _
    ∙ ap (λ rest. if nat_lt key w.0 then (key, entry_of new) ∷ (w.0, entry_of w.1) ∷ futures_of places else (w.0, entry_of w.1) ∷ rest) (futures_of-with_new_at places key new)

pub futures_of-without_at : (places : List (ℕ × Waiting)) (key : ℕ) → futures_of (without_at places key) ≡ without_at (futures_of places) key
futures_of-without_at [] key = refl
futures_of-without_at (w ∷ places) key =
    futures_of-if (w.0 == key) _ _ ∙ ap (λ rest. if w.0 == key then futures_of places else (w.0, entry_of w.1) ∷ rest) (futures_of-without_at places key)

-- ---- how many tasks wait

-- how many tasks an entry has
abbrev pub tasks_of_entry : Entry → ℕ
tasks_of_entry e = length (option_to_list e.task)

pub length-future_tasks : (futures : List (ℕ × Entry)) → length (future_tasks futures) ≡ sum_at tasks_of_entry futures
length-future_tasks [] = refl
length-future_tasks (f ∷ futures) = length-append (option_to_list f.1.task) (future_tasks futures) ∙ ap (λ n. tasks_of_entry f.1 + n) (length-future_tasks futures)

some-more : (t : Option ℕ) (rest : Bool) (tasks : List ℕ) → rest ≡ nat_lt 0 (length tasks) → (is_some t || rest) ≡ nat_lt 0 (length (option_to_list t ++ tasks))
some-more None rest tasks is = is
some-more (Some t) rest tasks is = grind (arith, nat_tests)

pub some_task-counted : (futures : List (ℕ × Entry)) → some_task futures ≡ nat_lt 0 (length (future_tasks futures))
some_task-counted [] = refl
some_task-counted (f ∷ futures) = some-more f.1.task _ _ (some_task-counted futures)

-- ---- taking all tasks

pub slot_tasks-from : (first : ℕ) (slots : List (Option Waiting)) → future_tasks (futures_of (entries_from first slots)) ≡ slot_tasks slots
slot_tasks-from first [] = refl
slot_tasks-from first (None ∷ slots) = slot_tasks-from (first + 1) slots
slot_tasks-from first (Some w ∷ slots) = ap (λ tasks. option_to_list w.task ++ tasks) (slot_tasks-from (first + 1) slots)

pub without_tasks-from : (first : ℕ) (slots : List (Option Waiting)) → futures_of (entries_from first (map taken_slot slots)) ≡ without_tasks (futures_of (entries_from first slots))
without_tasks-from first [] = refl
without_tasks-from first (None ∷ slots) = without_tasks-from (first + 1) slots
without_tasks-from first (Some w ∷ slots) = ap (λ fs. (first, record { since = w.since; task = None }) ∷ fs) (without_tasks-from (first + 1) slots)

pub length-taken : (first : ℕ) (slots : List (Option Waiting)) → length (entries_from first (map taken_slot slots)) ≡ length (entries_from first slots)
length-taken first [] = refl
length-taken first (None ∷ slots) = length-taken (first + 1) slots
length-taken first (Some w ∷ slots) = ap suc (length-taken (first + 1) slots)

untasked : (f : ℕ × Entry) (t : Option ℕ) (futures : List (ℕ × Entry)) → f.1.task ≡ t → option_to_list t ++ future_tasks futures ≡ [] →
    (future_tasks futures ≡ [] → without_tasks futures ≡ futures) → without_tasks (f ∷ futures) ≡ f ∷ futures
untasked f None futures is none rest = ap (λ fs. (f.0, record f.1 { task = None }) ∷ fs) (rest none) ∙ ap (λ t. (f.0, record f.1 { task = t }) ∷ futures) (sym is)
untasked f (Some t) futures is none rest = absurd (cc)

-- where no task waits, none is taken
pub without_tasks-none : (futures : List (ℕ × Entry)) → future_tasks futures ≡ [] → without_tasks futures ≡ futures
without_tasks-none [] none = refl
without_tasks-none (f ∷ futures) none = untasked f f.1.task futures refl none (without_tasks-none futures)
