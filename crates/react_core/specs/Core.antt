-- The reactor's core as plain data.
use Rattle.std.specs.Prelude.{◌≡◌, ◌<◌, ◌^◌, ℕ, List, [], Option, None, IsSome}
use Rattle.react_timers.specs.declared.timer.LiveTimer.{LiveTimer}
use Rattle.react_timers.specs.declared.timer.TimerOp.{TimerOp}
use Rattle.react_timers.specs.Live.{Rises, applied_all}
use Rattle.react_core.specs.Places.{Source}
use Rattle.react_core.specs.Sources.{source_of, with_new, without, new_source, RisesFrom}

pub record Core : Type 0 where
  -- the last round that was begun
  pub ticker : ℕ
  -- the last timer that was made
  pub made : ℕ
  -- how many polled interests were begun, first or anew
  pub begun : ℕ
  -- by rising key
  pub sources : List (ℕ × Source)
  -- the operations on timers that wait, the first first
  pub queue : List TimerOp
  -- by rising number
  pub timers : List LiveTimer
  -- the tasks that the open round has taken, where one is open
  pub hands : Option (List ℕ)

-- what contracts see of a reactor: its core, and how many reports one of its waits can take
pub record ReactorState : Type 0 where
  pub core : Core
  pub events : ℕ

-- what holds of each reactor's core: no number passes the end of its type, and the keys of the sources and the numbers
-- of the timers rise
pub record Fits (core : Core) : Type 0 where
  pub ticker : core.ticker < 2 ^ 64
  pub made : core.made < 2 ^ 64
  pub begun : core.begun < 2 ^ 64
  pub rises : RisesFrom 0 core.sources
  pub timers : Rises core.timers

-- an idle core with these counters
abbrev pub new_core : ℕ → ℕ → Core
new_core tick timer =
    record { ticker = tick; made = timer; begun = 0; sources = []; queue = []; timers = []; hands = None }

abbrev pub HasSource : Core → ℕ → Type 0
HasSource core key = IsSome (source_of core.sources key)

-- the timers, once the queue is applied
abbrev pub timers_applied : Core → List LiveTimer
timers_applied core = applied_all core.timers core.queue

-- no round is open, there is no source, and no timer once the queue is applied
abbrev pub IsIdle : Core → Type 0
IsIdle core = (core.hands ≡ None) × (core.sources ≡ []) × (timers_applied core ≡ [])

abbrev pub IsRoundOpen : Core → Type 0
IsRoundOpen core = IsSome core.hands

-- a new source of this wire stands under the key
abbrev pub inserted : Core → ℕ → ℕ → Core
inserted core key wire = record core { sources = with_new core.sources key (new_source wire) }

-- the source under the key is gone
abbrev pub removed : Core → ℕ → Core
removed core key = record core { sources = without core.sources key }
