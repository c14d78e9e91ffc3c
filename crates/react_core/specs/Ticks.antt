-- The pairs of numbers by which the code tells whether an interest is fresh, and its tables of futures.
use Rattle.std.specs.Prelude.{◌≡◌, ◌<◌, ◌≤◌, ◌⊎◌, ◌++◌, ℕ, List, [], ◌∷◌, Option, Some, None}
use Rattle.react_core.specs.declared.interest.Waiting.{Waiting}
use Rattle.react_core.specs.Places.{Entry}
use Rattle.react_core.specs.Reports.{task_of}

-- what contracts see at a place
abbrev pub entry_of : Waiting → Entry
entry_of w = record { since = w.since; task = w.task }

abbrev pub place_of : Option Waiting → Option Entry
place_of None = None
place_of (Some w) = Some (entry_of w)

abbrev pub futures_of : List (ℕ × Waiting) → List (ℕ × Entry)
futures_of [] = []
futures_of (w ∷ places) = (w.0, entry_of w.1) ∷ futures_of places

-- a direction's tick is one of the numbers with which an interest began, or that of a later round
abbrev pub IsTied : ℕ → Waiting → Type 0
IsTied tick w = record {
  order : w.seen ≤ w.since;
  tick : (tick ≡ w.since) ⊎ ((tick ≡ w.seen) ⊎ (w.since < tick));
}

abbrev pub IsTiedPlace : ℕ → Option Waiting → Type 0
IsTiedPlace tick None = Unit {0}
IsTiedPlace tick (Some w) = IsTied tick w

-- a place whose task is taken
abbrev pub taken_slot : Option Waiting → Option Waiting
taken_slot None = None
taken_slot (Some w) = Some (record w { task = None })

-- the tasks at these places, in order
abbrev pub slot_tasks : List (Option Waiting) → List ℕ
slot_tasks [] = []
slot_tasks (slot ∷ slots) = task_of (place_of slot) ++ slot_tasks slots
