-- The timers of the sessions that sleep, in the reactor. Moments are nanoseconds.
use Rattle.std.specs.Prelude.{◌≡◌, ◌≤◌, ◌<◌, ◌⊎◌, ℕ, ◌+◌, true, nat_lt, if◌then◌else◌, List, [], ◌∷◌, ◌++◌}
use Rattle.std.specs.Prelude.{Option, Some, None}
use Rattle.react_timers.specs.declared.timer.LiveTimer.{LiveTimer}
use Rattle.react_core.specs.Core.{Core, timers_applied}
use Rattle.bus_visit.specs.declared.timing.Alarm.{Alarm}
use Rattle.bus_visit.specs.declared.visiting.Slot.{Slot}
use Rattle.bus_visit.specs.declared.visiting.Slot.TheVariants as slot
use Rattle.bus_peers.specs.inside.Due.{is_in}

-- what wakes the session of a slot beside its wire
abbrev pub alarm_of : Slot → Option Alarm
alarm_of (slot.Ended e) = None
alarm_of (slot.Asleep s) = s.alarm
alarm_of slot.Refused = None

-- its timer, unless a round has read the clock up to this mark and so taken it
abbrev pub live_of : ℕ → ℕ → Option Alarm → List LiveTimer
live_of mark wire None = []
live_of mark wire (Some alarm) =
    if nat_lt mark alarm.deadline then record { number = alarm.number; when = alarm.deadline; task = wire } ∷ [] else []

-- the timers of these slots, the first of which is that of this wire
abbrev pub live : ℕ → ℕ → List Slot → List LiveTimer
live mark wire [] = []
live mark wire (c ∷ slots) = live_of mark wire (alarm_of c) ++ live mark (wire + 1) slots

-- ---- the numbers of the timers rise, the first from one on, and are at most the last that was made

abbrev pub IsNumbered : ℕ → ℕ → Option Alarm → Type 0
IsNumbered low made None = Unit {0}
IsNumbered low made (Some alarm) = (low ≤ alarm.number) × (alarm.number ≤ made)

abbrev pub next_number : ℕ → Option Alarm → ℕ
next_number low None = low
next_number low (Some alarm) = alarm.number + 1

abbrev pub NumbersRise : ℕ → ℕ → List Slot → Type 0
NumbersRise low made [] = Unit {0}
NumbersRise low made (c ∷ slots) =
    IsNumbered low made (alarm_of c) × NumbersRise (next_number low (alarm_of c)) made slots

-- ---- each deadline is above the mark, unless its session is still to be visited in this round

abbrev pub IsAbove : ℕ → List ℕ → ℕ → Option Alarm → Type 0
IsAbove mark pending wire None = Unit {0}
IsAbove mark pending wire (Some alarm) = (mark < alarm.deadline) ⊎ (is_in wire pending ≡ true)

-- the first of these slots is that of this wire
abbrev pub AllAbove : ℕ → List ℕ → ℕ → List Slot → Type 0
AllAbove mark pending wire [] = Unit {0}
AllAbove mark pending wire (c ∷ slots) =
    IsAbove mark pending wire (alarm_of c) × AllAbove mark pending (wire + 1) slots

-- The reactor has a timer for each session with a deadline that sleeps, but for those whose timer the last round took,
-- which are still to be visited. The clock stands at the first moment.
pub record Alarmed (now : ℕ) (core : Core) (pending : List ℕ) (slots : List Slot) : Type 0 where
  -- the last reading of the last round
  pub mark : ℕ
  pub past : mark ≤ now
  pub timers : timers_applied core ≡ live mark 0 slots
  pub numbers : NumbersRise 0 core.made slots
  pub above : AllAbove mark pending 0 slots
