-- What contracts see of timers: the live ones by rising number, the queue of operations, how many entries the heap
-- has, and for how many insertions more there is memory.
use Rattle.std.specs.Prelude.{◌-◌, ℕ, List, min}
use Rattle.react_timers.specs.declared.timer.LiveTimer.{LiveTimer}
use Rattle.react_timers.specs.declared.timer.TimerOp.{TimerOp}

pub record Timetable : Type 0 where
  pub live : List LiveTimer
  pub queue : List TimerOp
  pub entries : ℕ
  pub room : ℕ

-- the memory that no queued insertion waits for
abbrev pub room_in : (entry_places entry_len live_places live_len waiting : ℕ) → ℕ
room_in entry_places entry_len live_places live_len waiting =
    min (entry_places - entry_len) (live_places - live_len) - waiting
