-- Where a number has its place among live timers.
use Rattle.std.specs.Prelude.{◌≡◌, ◌<◌, ℕ, suc, nat_lt, if◌then◌else◌, List, [], ◌∷◌, None, Some, length, slice_set}
use Rattle.std.specs.Prelude.{slice_index_or}
use Rattle.react_timers.specs.declared.slot.Slot.{Slot}
use Rattle.react_timers.specs.declared.timer.LiveTimer.{LiveTimer}
use Rattle.react_timers.specs.Live.{Rises, task_at, without}
use Rattle.react_timers.specs.Slots.{timers_in, lives, left_by}

-- how many timers at the front have a lower number
abbrev pub place : ℕ → List LiveTimer → ℕ
place number [] = 0
place number (x ∷ xs) = if nat_lt x.number number then suc (place number xs) else 0

-- no live timer has this number and this moment
pub record IsNowhere (when number : ℕ) (slots : List Slot) : Type 0 where
  pub task : task_at when number (lives slots) ≡ None
  pub left : without when number (lives slots) ≡ lives slots

-- the live timer with this number and this moment is the one at `at`
pub record StandsAt (when number : ℕ) (slots : List Slot) (at : ℕ) : Type 0 where
  pub within : at < length slots
  pub task : (d : Slot) → task_at when number (lives slots) ≡ Some (slice_index_or slots at d).timer.task
  pub left : (d : Slot) →
      without when number (lives slots) ≡ lives (slice_set slots at (left_by (slice_index_or slots at d)))
  pub fewer : (d : Slot) →
      length (lives slots) ≡ suc (length (lives (slice_set slots at (left_by (slice_index_or slots at d)))))
  pub rises : (d : Slot) → Rises (timers_in (slice_set slots at (left_by (slice_index_or slots at d))))
