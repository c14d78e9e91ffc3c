-- What insertions, removals and rounds do to a core's timers. Moments are nanoseconds.
use Rattle.std.specs.Prelude.{◌+◌, ◌-◌, ℕ, true, false, nat_lt, if◌then◌else◌, List, [], ◌∷◌, ◌++◌, Option, Some, None, min}
use Rattle.std.specs.Prelude.{length, Result, Ok, Err}
use Rattle.react_core.specs.declared.outside.Event.{Event}
use Rattle.react_core.specs.declared.outside.Event.TheVariants as event
use Rattle.react_core.specs.declared.reactor.ReactError.{ReactError}
use Rattle.react_core.specs.declared.reactor.ReactError.TheVariants.{Poller, OutOfMemory, Exhausted}
use Rattle.react_timers.specs.declared.timer.LiveTimer.{LiveTimer}
use Rattle.react_timers.specs.declared.timer.TimerOp.{TimerOp}
use Rattle.react_timers.specs.declared.timer.TimerOp.TheVariants.{Insert, Remove}
use Rattle.react_timers.specs.Live.{applied_all, due, later, tasks, nearest_moment}
use Rattle.react_core.specs.Core.{Core, timers_applied}

-- ---- the queue

-- the queue is applied, in order
abbrev pub queue_applied : Core → Core
queue_applied core = record core { queue = []; timers = timers_applied core }

-- an operation waits behind the others
abbrev pub queued : Core → TimerOp → Core
queued core op = record core { queue = core.queue ++ op ∷ [] }

-- a queue of 1000 operations is applied before another one comes
abbrev pub with_place : Core → Core
with_place core = if nat_lt (length core.queue) 1000 then core else queue_applied core

-- the next timer's number is used
abbrev pub drawn : Core → Core
drawn core = record core { made = core.made + 1 }

-- an insertion of a timer waits in the queue, under the next number
abbrev pub timer_inserted : Core → ℕ → ℕ → Core
timer_inserted core when task = queued (with_place (drawn core)) (Insert when (core.made + 1) task)

-- the removal of the timer with this moment and number waits in the queue
abbrev pub timer_removed : Core → ℕ → ℕ → Core
timer_removed core when number = queued (with_place core) (Remove when number)

-- no timer is left, and no operation waits
abbrev pub timers_cleared : Core → Core
timers_cleared core = record core { queue = []; timers = [] }

-- the core after a refused insertion: where the poller failed, the number stays used
abbrev pub insertion_refused : {T : Type 0} → Core → Result T ReactError → Core
insertion_refused core (Ok v) = core
insertion_refused core (Err Poller) = with_place (drawn core)
insertion_refused core (Err OutOfMemory) = with_place core
insertion_refused core (Err (Exhausted counter value)) = core

-- what an insertion tells: one notice
abbrev pub insertion_told : {T : Type 0} → Result T ReactError → List Event
insertion_told (Ok v) = event.Notify true ∷ []
insertion_told (Err Poller) = event.Notify false ∷ []
insertion_told (Err OutOfMemory) = []
insertion_told (Err (Exhausted counter value)) = []

-- ---- a round

-- of timers and a queue, where a moment is given: the tasks of those that are due once the queue is applied, in the order
-- of moment, then number
abbrev pub pass_tasks : Option ℕ → List LiveTimer → List TimerOp → List ℕ
pass_tasks None timers queue = []
pass_tasks (Some now) timers queue = tasks (due now (applied_all timers queue))

-- the timers that are left
abbrev pub pass_timers : Option ℕ → List LiveTimer → List TimerOp → List LiveTimer
pass_timers None timers queue = timers
pass_timers (Some now) timers queue = later now (applied_all timers queue)

-- the queue that is left
abbrev pub pass_queue : Option ℕ → List TimerOp → List TimerOp
pass_queue None queue = queue
pass_queue (Some now) queue = []

-- the tasks that a pass of the timers takes, at this moment where one is given
abbrev pub due_tasks : Core → Option ℕ → List ℕ
due_tasks core at = pass_tasks at core.timers core.queue

-- the core after that pass
abbrev pub passed : Core → Option ℕ → Core
passed core at =
    record core { queue = pass_queue at core.queue; timers = pass_timers at core.timers core.queue }

abbrev pub lesser : ℕ → Option ℕ → ℕ
lesser length None = length
lesser length (Some timeout) = min length timeout

-- nothing where a task is due; else up to the nearest moment, and not beyond the timeout
abbrev pub limit_by : List ℕ → Option ℕ → ℕ → Option ℕ → Option ℕ
limit_by [] None now timeout = timeout
limit_by [] (Some when) now timeout = Some (lesser (when - now) timeout)
limit_by (task ∷ tasks) nearest now timeout = Some 0

-- for how long a round waits that begins at this moment
abbrev pub wait_limit : Core → ℕ → Option ℕ → Option ℕ
wait_limit core now timeout =
    limit_by (due_tasks core (Some now)) (nearest_moment (passed core (Some now)).timers) now timeout
