-- A timer: what contracts see of it, and what setters, clears and polls make of it and of the reactor's core. Moments
-- and periods are nanoseconds.
use Rattle.std.specs.Prelude.{◌≡◌, ◌+◌, ◌^◌, ◌==◌, ℕ, Bool, true, false, nat_lt, nat_le, if◌then◌else◌, []}
use Rattle.std.specs.Prelude.{Option, Some, None, IsSome, Result, IsOk, OnOk, OnErr}
use Rattle.futures.specs.declared.task.Poll.{Poll}
use Rattle.futures.specs.declared.task.Poll.TheVariants.{Ready, Pending}
use Rattle.react_core.specs.declared.reactor.Counter.TheVariants as counter
use Rattle.react_core.specs.declared.reactor.ReactError.{ReactError}
use Rattle.react_timers.specs.Live.{task_at}
use Rattle.react_core.specs.Core.{Core, ReactorState, timers_applied}
use Rattle.react_core.specs.Outer.{Outer, Keeps}
use Rattle.react_core.specs.Outer as part
use Rattle.react_core.specs.Round.{NumberedBy, RoundCounted}
use Rattle.react_core.specs.Steps.{CoreSteps}
use Rattle.react_core.specs.Timing.{timer_inserted, timer_removed, insertion_refused, insertion_told}
use Rattle.react_core.specs.Told.{told}
use Rattle.react_async.specs.declared.timer.Kept.{Kept}
use Rattle.react_async.specs.declared.timer.Kept.TheVariants.{Nothing, Task, Registered}

-- what contracts see of a timer
pub record TimerState : Type 0 where
  -- the moment, where one is set
  pub when : Option ℕ
  -- how long after its moment the next one is, where there is one
  pub period : Option ℕ
  pub kept : Kept

-- a task that is kept alone has no moment, and a registration has one
abbrev pub IsKept : Option ℕ → Kept → Type 0
IsKept when Nothing = Unit {0}
IsKept when (Task task) = when ≡ None
IsKept when (Registered number task) = IsSome when

-- a timer with this moment and period that keeps no task
abbrev pub new_timer : Option ℕ → Option ℕ → TimerState
new_timer None period = record { when = None; period = None; kept = Nothing }
new_timer (Some when) period = record { when = Some when; period = period; kept = Nothing }

-- ---- moments

-- the sum, where it doesn't pass the end of its type
abbrev pub sum_within : ℕ → ℕ → Option ℕ
sum_within start length = if nat_lt (start + length) (2 ^ 64) then Some (start + length) else None

-- the moment that comes a period after this one
abbrev pub next_moment : ℕ → Option ℕ → Option ℕ
next_moment when None = None
next_moment when (Some period) = sum_within when period

-- ---- the task that is kept

abbrev pub kept_task : Kept → Option ℕ
kept_task Nothing = None
kept_task (Task task) = Some task
kept_task (Registered number task) = Some task

-- the task without a registration
abbrev pub task_alone : Kept → Kept
task_alone Nothing = Nothing
task_alone (Task task) = Task task
task_alone (Registered number task) = Task task

-- registered for this task
abbrev pub is_for : Kept → ℕ → Bool
is_for Nothing task = false
is_for (Task alone) task = false
is_for (Registered number other) task = other == task

-- what is kept of a task, where the registration of this moment for it gets this number
abbrev pub kept_at : Option ℕ → Option ℕ → ℕ → Kept
kept_at when None number = Nothing
kept_at None (Some task) number = Task task
kept_at (Some when) (Some task) number = Registered number task

-- ---- registrations

-- a moment is registered for a task where both are there
abbrev pub registers : Option ℕ → Option ℕ → Bool
registers None task = false
registers (Some when) None = false
registers (Some when) (Some task) = true

-- the core with that registration
abbrev pub registered : Core → Option ℕ → Option ℕ → Core
registered core None task = core
registered core (Some when) None = core
registered core (Some when) (Some task) = timer_inserted core when task

-- the core without the registration of a timer that keeps this, where it has one
abbrev pub unregistered : Core → Option ℕ → Kept → Core
unregistered core None kept = core
unregistered core (Some when) Nothing = core
unregistered core (Some when) (Task task) = core
unregistered core (Some when) (Registered number task) = timer_removed core when number

abbrev pub standing_at : Core → Option ℕ → Kept → Option ℕ
standing_at core None kept = None
standing_at core (Some when) Nothing = None
standing_at core (Some when) (Task task) = None
standing_at core (Some when) (Registered number task) = task_at when number (timers_applied core)

-- the task that the reactor is to wake at the timer's registration, once the queue is applied; none where it stands no
-- more, or never did
abbrev pub standing : Core → TimerState → Option ℕ
standing core timer = standing_at core timer.when timer.kept

-- ---- what a call makes of a timer and of the core

pub data Move : Type 0 where
  -- both stay as they are
  Stay : Move
  -- the timer gets this moment, or none, and keeps this task, or none: it is registered where it has both. Its old
  -- registration is removed after that
  To : Option ℕ → Option ℕ → Move

abbrev pub timer_moved : Core → TimerState → Move → TimerState
timer_moved core timer Stay = timer
timer_moved core timer (To when task) = record timer { when = when; kept = kept_at when task (core.made + 1) }

abbrev pub core_moved : Core → TimerState → Move → Core
core_moved core timer Stay = core
core_moved core timer (To when task) = unregistered (registered core when task) timer.when timer.kept

-- the registration that the timer had stands no more, but where the timer stays as it is
abbrev pub IsGone : Move → TimerState → Core → Type 0
IsGone Stay timer new = Unit {0}
IsGone (To when task) timer new = standing new timer ≡ None

abbrev pub inserts : Move → Bool
inserts Stay = false
inserts (To when task) = registers when task

-- ---- a clear

abbrev pub timer_cleared : TimerState → TimerState
timer_cleared timer = record timer { when = None; kept = task_alone timer.kept }

abbrev pub core_cleared : Core → TimerState → Core
core_cleared core timer = unregistered core timer.when timer.kept

-- ---- a setter

-- to this moment, for the task that is kept
abbrev pub setter_move : TimerState → Option ℕ → Move
setter_move timer when = To when (kept_task timer.kept)

-- the timer with this moment and period; without a moment it is cleared
abbrev pub timer_set : Core → TimerState → Option ℕ → Option ℕ → TimerState
timer_set core timer None period = timer_cleared timer
timer_set core timer (Some when) period =
    record (timer_moved core timer (setter_move timer (Some when))) { period = period }

-- ---- a poll

-- Ready exactly where a moment is set that is at most now
abbrev pub poll_answer : Option ℕ → ℕ → Poll ℕ
poll_answer None now = Pending
poll_answer (Some when) now = if nat_le when now then Ready when else Pending

-- to the next moment, for this task; where there is none, the task isn't kept
abbrev pub next_move : Option ℕ → ℕ → Move
next_move None task = To None None
next_move (Some next) task = To (Some next) (Some task)

-- of a timer with this moment that isn't due: it is registered for this task, or stays where it is already
abbrev pub wait_move : ℕ → Kept → ℕ → Move
wait_move when kept task = if is_for kept task then Stay else To (Some when) (Some task)

abbrev pub poll_move_at : Option ℕ → Option ℕ → Kept → ℕ → ℕ → Move
poll_move_at None period kept now task = Stay
poll_move_at (Some when) period kept now task =
    if nat_le when now then next_move (next_moment when period) task else wait_move when kept task

-- what a poll at this moment for this task makes of the timer
abbrev pub poll_move : TimerState → ℕ → ℕ → Move
poll_move timer now task = poll_move_at timer.when timer.period timer.kept now task

abbrev pub registrations_at : Option ℕ → Kept → ℕ → ℕ
registrations_at None kept task = 0
registrations_at (Some when) kept task = if is_for kept task then 0 else 1

-- how many timers a poll inserts that is Pending: one where a moment is set that isn't registered for the task
abbrev pub pending_registrations : TimerState → ℕ → ℕ
pending_registrations timer task = registrations_at timer.when timer.kept task

-- ---- what a call asks of the reactor

-- an insertion is refused as there, where one is asked for; else nothing is refused
abbrev pub NumberedWhere : Bool → Result (Unit {0}) ReactError → ℕ → Type 0
NumberedWhere true answer made = NumberedBy counter.Timer answer made
NumberedWhere false answer made = IsOk answer

-- what holds of the reactor and of what it asks, where a call that makes this move of the timer answers so: at Ok the
-- core has moved; a refusal is that of the insertion
pub record Asked {Origin : Type 0} (move : Move) (timer : TimerState) (answer : Result (Unit {0}) ReactError)
    (before after : Outer Origin) (old new : ReactorState) : Type 0 where
  pub done : OnOk answer (new ≡ record old { core = core_moved old.core timer move })
  pub gone : OnOk answer (IsGone move timer new.core)
  pub refused : OnErr answer (new ≡ record old { core = insertion_refused old.core answer })
  pub numbered : NumberedWhere (inserts move) answer old.core.made
  pub gained : after.events ≡ told before.events (if inserts move then insertion_told answer else [])
  pub cause : RoundCounted answer before.poller_faults after.poller_faults
  pub keeps : Keeps part.Poller before after
  pub reports : new.events ≡ old.events
  pub steps : CoreSteps old.core new.core

-- a setter of this moment and period that answers so: at Ok the timer has them, and a task that was kept is registered
-- anew; where none was, the reactor isn't touched
pub record IsSet {Origin : Type 0} (when period : Option ℕ) (answer : Result (Unit {0}) ReactError)
    (before after : Outer Origin) (timer timer' : TimerState) (old new : ReactorState) : Type 0 where
  pub done : OnOk answer (timer' ≡ timer_set old.core timer when period)
  pub refused : OnErr answer (timer' ≡ timer)
  pub task : kept_task timer'.kept ≡ kept_task timer.kept
  pub untouched : kept_task timer.kept ≡ None → IsOk answer × (new ≡ old)
  pub asked : Asked (setter_move timer when) timer answer before after old new
