-- A direction that a report names: its tick is the round's, and its tasks are taken.
use Rattle.std.proofs.Common.{◌≡◌, ◌+◌, ◌<◌, ◌≤◌, ◌++◌, ◌⊎◌, ℕ, true, List, [], ◌∷◌, Option, Some, None, length, map, refl, sym, ap, ◌∙◌, inl, inr, arith, append_assoc, length-append}
use Rattle.std.proofs.lemmas.Bool.{cases_order}
use Rattle.std.proofs.lemmas.List.{append-nil}
use Rattle.slab.specs.Slab.{Slab, entries, entries_from, slab_len}
use Rattle.slab.proofs.SlabLemmas.{length-entries}
use Rattle.react_core.specs.declared.interest.Waiting.{Waiting}
use Rattle.react_core.specs.Keyed.{Each}
use Rattle.react_core.specs.Places.{Entry, Direction, last_round, begun_number}
use Rattle.react_core.specs.Reports.{marked, without_task, without_tasks, task_of, future_tasks, tasks_of}
use Rattle.react_core.specs.Sources.{HasBegunBy}
use Rattle.react_core.specs.Ticks.{place_of, futures_of, IsTied, IsTiedPlace, taken_slot, slot_tasks}
use Rattle.react_core.proofs.Entries.{slot_tasks-from, without_tasks-from, length-taken, without_tasks-none}
use Rattle.react_core.proofs.Holding.{futures_in, IsCounted}

abbrev pub direction : Option ℕ → Option Entry → List (ℕ × Entry) → Direction
direction reported polled futures = record { reported = reported; polled = polled; futures = futures }

without_task-taken : (polled : Option Waiting) → place_of (taken_slot polled) ≡ without_task (place_of polled)
without_task-taken None = refl
without_task-taken (Some w) = refl

-- ---- ties

-- no interest began after the round of the new tick
tied-now : (tick ticker : ℕ) (w : Waiting) → IsTied tick w → w.since ≤ ticker → IsTied ticker w
tied-now tick ticker w tied le = record { order = tied.order; tick = now (cases_order ticker w.since) }
  where
    now : (ticker ≡ w.since) ⊎ ((ticker < w.since) ⊎ (w.since < ticker)) → (ticker ≡ w.since) ⊎ ((ticker ≡ w.seen) ⊎ (w.since < ticker))
    now (inl same) = inl same
    now (inr (inl below)) = absurd (omega (arith, le, below))
    now (inr (inr above)) = inr (inr above)

pub tied_place-marked : (tick ticker : ℕ) (polled : Option Waiting) → IsTiedPlace tick polled → HasBegunBy ticker (place_of polled) → IsTiedPlace ticker (taken_slot polled)
tied_place-marked tick ticker None tied le = tt
tied_place-marked tick ticker (Some w) tied le = let now = tied-now tick ticker w tied le in record { order = now.order; tick = now.tick }

pub tied-later : (tick ticker : ℕ) (places : List (ℕ × Waiting)) → Each (IsTied tick) places → Each (λ e. e.since ≤ ticker) (futures_of places) → Each (IsTied ticker) places
tied-later tick ticker [] tied le = tt
tied-later tick ticker (w ∷ places) tied le = (tied-now tick ticker w.1 tied.0 le.0, tied-later tick ticker places tied.1 le.1)

tied-taken_from : (tick first : ℕ) (slots : List (Option Waiting)) → Each (IsTied tick) (entries_from first slots) → Each (IsTied tick) (entries_from first (map taken_slot slots))
tied-taken_from tick first [] tied = tt
tied-taken_from tick first (None ∷ slots) tied = tied-taken_from tick (first + 1) slots tied
tied-taken_from tick first (Some w ∷ slots) tied = (record { order = tied.0.order; tick = tied.0.tick }, tied-taken_from tick (first + 1) slots tied.1)

-- ---- the tasks of a table of futures are taken

module _ (old new : Slab Waiting) (taken : new.slots ≡ map taken_slot old.slots) where
  entries-taken : entries new ≡ entries_from 0 (map taken_slot old.slots)
  entries-taken = ap (entries_from 0) taken

  futures-taken : futures_in new ≡ without_tasks (futures_in old)
  futures-taken = ap futures_of entries-taken ∙ without_tasks-from 0 old.slots

  pub tied-marked : (tick ticker : ℕ) → Each (IsTied tick) (entries old) → Each (λ e. e.since ≤ ticker) (futures_in old) → Each (IsTied ticker) (entries new)
  tied-marked tick ticker tied le = rw entries-taken (tied-taken_from ticker 0 old.slots (tied-later tick ticker (entries old) tied le))

  pub counts-marked : (places : ℕ) → places ≡ slab_len old → IsCounted places new
  counts-marked places all =
      let none = ap (λ fs. length (future_tasks fs)) futures-taken ∙ ap length (none-left (futures_in old)) in
      let same = ap length entries-taken ∙ length-taken 0 old.slots ∙ length-entries old in
      omega arith
    where
      none-left : (futures : List (ℕ × Entry)) → future_tasks (without_tasks futures) ≡ []
      none-left [] = refl
      none-left (f ∷ futures) = none-left futures

  pub direction-marked : (tick ticker : ℕ) (polled polled' : Option Waiting) → 1 ≤ ticker → polled' ≡ taken_slot polled →
      direction (last_round ticker) (place_of polled') (futures_in new) ≡ marked true ticker (direction (last_round tick) (place_of polled) (futures_in old))
  direction-marked tick ticker polled polled' begun is = rw (begun_number ticker begun, is, without_task-taken, futures-taken) refl

pub hands-marked : (table : Slab Waiting) (polled : Option Waiting) (reported : Option ℕ) (hands mid hands' : List ℕ) → mid ≡ hands ++ task_of (place_of polled) →
    hands' ≡ mid ++ slot_tasks table.slots →
    hands' ≡ hands ++ tasks_of (direction reported (place_of polled) (futures_in table))
hands-marked table polled reported hands mid hands' first second =
    second ∙ ap (λ hs. hs ++ slot_tasks table.slots) first ∙ append_assoc hands (task_of (place_of polled)) (slot_tasks table.slots)
    ∙ ap (λ ts. hands ++ (task_of (place_of polled) ++ ts)) (sym (slot_tasks-from 0 table.slots))

pub length-tasks_of : (table : Slab Waiting) (polled : Option Waiting) (reported : Option ℕ) →
    length (tasks_of (direction reported (place_of polled) (futures_in table))) ≡ length (task_of (place_of polled)) + length (slot_tasks table.slots)
length-tasks_of table polled reported =
    length-append (task_of (place_of polled)) (future_tasks (futures_in table))
    ∙ ap (λ ts. length (task_of (place_of polled)) + length ts) (slot_tasks-from 0 table.slots)

-- ---- no future's task waits

module _ (table : Slab Waiting) (taken : ℕ) (counted : IsCounted taken table) (all : slab_len table ≤ taken) where
  nothing : (tasks : List ℕ) → length tasks ≡ 0 → tasks ≡ []
  nothing [] none = refl
  nothing (t ∷ tasks) none = absurd (omega arith)

  none-wait : future_tasks (futures_in table) ≡ []
  none-wait = nothing (future_tasks (futures_in table)) (omega (arith, length-entries table))

  pub direction-unwaited : (tick ticker : ℕ) (polled polled' : Option Waiting) → 1 ≤ ticker → polled' ≡ taken_slot polled →
      direction (last_round ticker) (place_of polled') (futures_in table) ≡ marked true ticker (direction (last_round tick) (place_of polled) (futures_in table))
  direction-unwaited tick ticker polled polled' begun is = rw (begun_number ticker begun, is, without_task-taken, without_tasks-none (futures_in table) none-wait) refl

  pub tasks_of-unwaited : (polled : Option Waiting) (reported : Option ℕ) → tasks_of (direction reported (place_of polled) (futures_in table)) ≡ task_of (place_of polled)
  tasks_of-unwaited polled reported = ap (λ ts. task_of (place_of polled) ++ ts) none-wait ∙ append-nil (task_of (place_of polled))
