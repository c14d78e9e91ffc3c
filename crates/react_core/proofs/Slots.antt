-- Slots whose tasks are taken one after another.
use Rattle.std.proofs.Common.{◌≡◌, ◌+◌, ◌≤◌, ◌++◌, ℕ, suc, zero, List, [], ◌∷◌, Option, Some, None, length, map, set, get_or, refl, sym, ap, ◌∙◌, arith, append_assoc, length-append}
use Rattle.std.proofs.lemmas.List.{append-nil}
use Rattle.react_core.specs.declared.interest.Waiting.{Waiting}
use Rattle.react_core.specs.Reports.{task_of}
use Rattle.react_core.specs.Ticks.{place_of, taken_slot, slot_tasks}

-- the slots after the first ones were taken
abbrev pub taken_to : List (Option Waiting) → ℕ → List (Option Waiting)
taken_to [] n = []
taken_to (slot ∷ slots) zero = slot ∷ slots
taken_to (slot ∷ slots) (suc n) = taken_slot slot ∷ taken_to slots n

-- the tasks at the first slots
abbrev pub tasks_to : List (Option Waiting) → ℕ → List ℕ
tasks_to [] n = []
tasks_to (slot ∷ slots) zero = []
tasks_to (slot ∷ slots) (suc n) = task_of (place_of slot) ++ tasks_to slots n

-- the next slot is as it was
pub taken_to-next : (slots : List (Option Waiting)) (n : ℕ) → get_or (taken_to slots n) n None ≡ get_or slots n None
taken_to-next [] n = refl
taken_to-next (slot ∷ slots) zero = refl
taken_to-next (slot ∷ slots) (suc n) = taken_to-next slots n

pub taken_to-none : (slots : List (Option Waiting)) → taken_to slots 0 ≡ slots
taken_to-none [] = refl
taken_to-none (slot ∷ slots) = refl

pub tasks_to-none : (slots : List (Option Waiting)) → tasks_to slots 0 ≡ []
tasks_to-none [] = refl
tasks_to-none (slot ∷ slots) = refl

-- taking the next slot's task
pub taken_to-more : (slots : List (Option Waiting)) (n : ℕ) (w : Waiting) → get_or slots n None ≡ Some w → set (taken_to slots n) n (Some (record w { task = None })) ≡ taken_to slots (suc n)
taken_to-more [] n w found = absurd (cc)
taken_to-more (slot ∷ slots) zero w found = rw found (ap (λ rest. Some (record w { task = None }) ∷ rest) (sym (taken_to-none slots)))
taken_to-more (slot ∷ slots) (suc n) w found = ap (λ rest. taken_slot slot ∷ rest) (taken_to-more slots n w found)

pub taken_to-free : (slots : List (Option Waiting)) (n : ℕ) → get_or slots n None ≡ None → taken_to slots n ≡ taken_to slots (suc n)
taken_to-free [] n free = refl
taken_to-free (slot ∷ slots) zero free = rw free (ap (λ rest. None ∷ rest) (sym (taken_to-none slots)))
taken_to-free (slot ∷ slots) (suc n) free = ap (λ rest. taken_slot slot ∷ rest) (taken_to-free slots n free)

pub tasks_to-more : (slots : List (Option Waiting)) (n : ℕ) → tasks_to slots (suc n) ≡ tasks_to slots n ++ task_of (place_of (get_or slots n None))
tasks_to-more [] n = refl
tasks_to-more (slot ∷ slots) zero = ap (λ rest. task_of (place_of slot) ++ rest) (tasks_to-none slots) ∙ append-nil (task_of (place_of slot))
tasks_to-more (slot ∷ slots) (suc n) = ap (λ rest. task_of (place_of slot) ++ rest) (tasks_to-more slots n) ∙ sym (append_assoc (task_of (place_of slot)) (tasks_to slots n) _)

-- at the end all are taken
pub taken_to-all : (slots : List (Option Waiting)) (n : ℕ) → length slots ≤ n → taken_to slots n ≡ map taken_slot slots
taken_to-all [] n le = refl
taken_to-all (slot ∷ slots) zero le = absurd (omega arith)
taken_to-all (slot ∷ slots) (suc n) le = ap (λ rest. taken_slot slot ∷ rest) (taken_to-all slots n (omega arith))

pub tasks_to-all : (slots : List (Option Waiting)) (n : ℕ) → length slots ≤ n → tasks_to slots n ≡ slot_tasks slots
tasks_to-all [] n le = refl
tasks_to-all (slot ∷ slots) zero le = absurd (omega arith)
tasks_to-all (slot ∷ slots) (suc n) le = ap (λ rest. task_of (place_of slot) ++ rest) (tasks_to-all slots n (omega arith))

-- the next slot's task is one of them all
pub tasks_to-bound : (slots : List (Option Waiting)) (n : ℕ) → length (tasks_to slots n) + length (task_of (place_of (get_or slots n None))) ≤ length (slot_tasks slots)
tasks_to-bound [] n = omega arith
tasks_to-bound (slot ∷ slots) zero = omega (arith, length-append (task_of (place_of slot)) (slot_tasks slots))
tasks_to-bound (slot ∷ slots) (suc n) =
    omega (arith, length-append (task_of (place_of slot)) (slot_tasks slots), length-append (task_of (place_of slot)) (tasks_to slots n), tasks_to-bound slots n)

-- ---- the hands

module _ (slots : List (Option Waiting)) (n : ℕ) (slot : Option Waiting) (here : get_or slots n None ≡ slot) where
  more : tasks_to slots (suc n) ≡ tasks_to slots n ++ task_of (place_of slot)
  more = tasks_to-more slots n ∙ ap (λ s. tasks_to slots n ++ task_of (place_of s)) here

  pub hands-more : (first hands next : List ℕ) → hands ≡ first ++ tasks_to slots n → next ≡ hands ++ task_of (place_of slot) → next ≡ first ++ tasks_to slots (suc n)
  hands-more first hands next is then_ =
      then_ ∙ ap (λ hs. hs ++ task_of (place_of slot)) is ∙ append_assoc first (tasks_to slots n) (task_of (place_of slot)) ∙ ap (λ ts. first ++ ts) (sym more)

  pub len-more : (first len next : ℕ) → len ≡ first + length (tasks_to slots n) → next ≡ len + length (task_of (place_of slot)) → next ≡ first + length (tasks_to slots (suc n))
  len-more first len next is then_ = omega (arith, ap length more, length-append (tasks_to slots n) (task_of (place_of slot)))

  pub room-more : (len first room : ℕ) → len ≡ first + length (tasks_to slots n) → first + length (slot_tasks slots) ≤ room → len + length (task_of (place_of slot)) ≤ room
  room-more len first room is enough = omega (arith, tasks_to-bound slots n, ap (λ s. length (task_of (place_of s))) here)
