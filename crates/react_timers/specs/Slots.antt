-- The places of timers, in the order of their numbers, some of which their timers have left.
use Rattle.std.specs.Prelude.{ℕ, false, if◌then◌else◌, List, [], ◌∷◌, map}
use Rattle.react_timers.specs.declared.slot.Slot.{Slot}
use Rattle.react_timers.specs.declared.timer.LiveTimer.{LiveTimer}

-- all timers, those that left too
abbrev pub timers_in : List Slot → List LiveTimer
timers_in = map (λ s. s.timer)

-- those that are live
abbrev pub lives : List Slot → List LiveTimer
lives [] = []
lives (s ∷ slots) = if s.is_live then s.timer ∷ lives slots else lives slots

-- the place when its timer has left it
abbrev pub left_by : Slot → Slot
left_by s = record s { is_live = false }

-- what contracts see of live timers: the timers by rising number, how many places are in use, and how many there are
pub record LiveTable : Type 0 where
  pub items : List LiveTimer
  pub used : ℕ
  pub places : ℕ
