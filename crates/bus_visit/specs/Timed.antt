-- A look at the clock, and what a visit over a registered wire comes to by the session's deadline.
use Rattle.std.specs.Prelude.{◌≡◌, ◌<◌, ◌≤◌, ◌+◌, ◌-◌, ◌^◌, ℕ, true, false, List, [], ◌∷◌, Option, Some, None, Result}
use Rattle.std.specs.Prelude.{Ok, Err}
use Rattle.react_core.specs.declared.outside.Event.{Event}
use Rattle.react_core.specs.declared.outside.Event.TheVariants as event
use Rattle.react_core.specs.declared.reactor.Counter.TheVariants as counter
use Rattle.react_core.specs.declared.reactor.ReactError.{ReactError}
use Rattle.react_core.specs.declared.reactor.ReactError.TheVariants as react_error
use Rattle.react_core.specs.Core.{Core, removed}
use Rattle.react_core.specs.Timing.{timer_inserted, timer_removed}
use Rattle.react_core.specs.Told.{told, Rose}
use Rattle.bus_opening.specs.Openings.{Opening}
use Rattle.bus_session.specs.declared.ended.Ending.TheVariants as ending
use Rattle.bus_session.specs.declared.ended.Ended.{Ended}
use Rattle.bus_visit.specs.declared.timing.Alarm.{Alarm}
use Rattle.bus_visit.specs.declared.timing.Limit.{Limit}
use Rattle.bus_visit.specs.declared.timing.Look.{Look}
use Rattle.bus_visit.specs.declared.timing.Look.TheVariants as look
use Rattle.bus_visit.specs.declared.visiting.Sleeper.{Sleeper}
use Rattle.bus_visit.specs.declared.visiting.Slot.{Slot}
use Rattle.bus_visit.specs.declared.visiting.Slot.TheVariants as slot
use Rattle.bus_visit.specs.Visited.{MakesRegisteredVisit}

-- ---- the timer of a session

-- its number: the one that was made, or the next one
abbrev pub number_by : Option ℕ → Core → ℕ
number_by None core = core.made + 1
number_by (Some number) core = number

-- the core once it is there; its task is the wire
abbrev pub timed_by : Option ℕ → ℕ → ℕ → Core → Core
timed_by None deadline wire core = timer_inserted core deadline wire
timed_by (Some number) deadline wire core = core

-- the notice of one that is made
abbrev pub notice_by : Option ℕ → List Event
notice_by None = event.Notify true ∷ []
notice_by (Some number) = []

abbrev pub forgotten_by : Option ℕ → ℕ → Core → Core
forgotten_by None deadline core = core
forgotten_by (Some number) deadline core = timer_removed core deadline number

-- the core without it
abbrev pub forgotten : Option Limit → Core → Core
forgotten None core = core
forgotten (Some limit) core = forgotten_by limit.number limit.deadline core

-- the deadline of a session that has no timer yet
abbrev pub limit_of : Option ℕ → Option Limit
limit_of None = None
limit_of (Some deadline) = Some (record { deadline = deadline; number = None })

-- the deadline and the timer of one that sleeps
abbrev pub limit_after : Option Alarm → Option Limit
limit_after None = None
limit_after (Some alarm) = Some (record { deadline = alarm.deadline; number = Some alarm.number })

-- the reading of its last visit
abbrev pub moment_after : Option Alarm → Option ℕ
moment_after None = None
moment_after (Some alarm) = Some alarm.moment

-- ---- a look at the clock

abbrev pub reading_of : Look → ℕ
reading_of (look.Late moment) = moment
reading_of (look.Early alarm) = alarm.moment

-- A reading below the deadline leaves the session's timer, whose task is the wire, and notifies where it was made.
pub record SleepsOn (wire : ℕ) (limit : Limit) (before after : Option (List Event)) (old new : Core)
    (alarm : Alarm) : Type 0 where
  pub early : alarm.moment < alarm.deadline
  pub at : alarm.deadline ≡ limit.deadline
  pub numbered : alarm.number ≡ number_by limit.number old
  pub gained : after ≡ told before (event.Now alarm.moment ∷ notice_by limit.number)
  pub core : new ≡ timed_by limit.number limit.deadline wire old

-- a reading that has reached it changes nothing
abbrev pub Looked : ℕ → Limit → Option (List Event) → Option (List Event) → Core → Core → Look → Type 0
Looked wire limit before after old new (look.Late moment) = record {
  reached : limit.deadline ≤ moment;
  gained : after ≡ told before (event.Now moment ∷ []);
  core : new ≡ old;
}
Looked wire limit before after old new (look.Early alarm) = SleepsOn wire limit before after old new alarm

-- the notice of a timer that was made failed
pub record NoticeFails (limit : Limit) (before after : Option (List Event)) : Type 0 where
  pub moment : ℕ
  pub early : moment < limit.deadline
  pub unmade : limit.number ≡ None
  pub gained : after ≡ told before (event.Now moment ∷ event.Notify false ∷ [])

-- a timer was to be made, and the last number was the type's end
pub record TimerRunsOut (limit : Limit) (before after : Option (List Event)) (old : Core) : Type 0 where
  pub moment : ℕ
  pub early : moment < limit.deadline
  pub unmade : limit.number ≡ None
  pub last : old.made ≡ 2 ^ 64 - 1
  pub gained : after ≡ told before (event.Now moment ∷ [])

-- The answer is Poller only where the poller's count rose, and only a timer's number can be exhausted.
abbrev pub TimedCounted : {T : Type 0} → Result T ReactError → ℕ → ℕ → Type 0
TimedCounted (Ok v) before now = now ≡ before
TimedCounted (Err react_error.Poller) before now = Rose before now
TimedCounted (Err react_error.OutOfMemory) before now = before ≤ now
TimedCounted (Err (react_error.Exhausted c value)) before now =
    (c ≡ counter.Timer) × (value ≡ 2 ^ 64 - 1) × (before ≤ now)

-- ---- a visit over a registered wire

-- a session whose deadline came at this reading
abbrev pub timed_out : Sleeper → ℕ → ℕ → Ended
timed_out s wire moment = record {
  ending = ending.TimedOut;
  written = s.client.written;
  leftover = s.client.rest;
  wire = wire;
  moment = Some moment;
}

-- What a visit over a registered wire comes to, before the timer of a session that has ended is taken out. The clock is
-- read where the session waits for its wire and has a deadline.
pub data TimedVisit (wire key : ℕ) (limit : Option Limit) (before after : Option (List Event)) (old new : Core)
    (c : Opening) : Slot → Type 0 where
  over : (e : Ended) → MakesRegisteredVisit wire key before after old new c (slot.Ended e) →
      TimedVisit wire key limit before after old new c (slot.Ended e)
  untimed : (s : Sleeper) → limit ≡ None → MakesRegisteredVisit wire key before after old new c (slot.Asleep s) →
      TimedVisit wire key limit before after old new c (slot.Asleep s)
  late : (l : Limit) (s : Sleeper) (mid : Core) (there : Option (List Event)) (moment : ℕ) → limit ≡ Some l →
      MakesRegisteredVisit wire key before there old mid c (slot.Asleep s) → l.deadline ≤ moment →
      after ≡ told there (event.Now moment ∷ event.Delete wire key true ∷ []) → new ≡ removed mid key →
      TimedVisit wire key limit before after old new c (slot.Ended (timed_out s wire moment))
  early : (l : Limit) (s : Sleeper) (mid : Core) (there : Option (List Event)) (a : Alarm) → limit ≡ Some l →
      MakesRegisteredVisit wire key before there old mid c (slot.Asleep s) →
      SleepsOn wire l there after mid new a →
      TimedVisit wire key limit before after old new c (slot.Asleep (record s { alarm = Some a }))

-- the core once the timer of a session that has ended is taken out
abbrev pub left_by : Slot → Option Limit → Core → Core
left_by (slot.Ended e) limit core = forgotten limit core
left_by (slot.Asleep s) limit core = core
left_by slot.Refused limit core = core

-- what a visit over a registered wire comes to
abbrev pub MakesVisit : ℕ → ℕ → Option Limit → Option (List Event) → Option (List Event) → Core → Core → Opening →
    Slot → Type 0
MakesVisit wire key limit before after old new c s =
    (last : Core) × TimedVisit wire key limit before after old last c s × (new ≡ left_by s limit last)

-- the reading of a visit that leaves the session asleep is not below this one
abbrev pub ReadSince : ℕ → Option Alarm → Type 0
ReadSince before None = Unit {0}
ReadSince before (Some alarm) = before ≤ alarm.moment

-- the clock went from the first moment to the second
abbrev pub GoesForward : ℕ → Slot → ℕ → Type 0
GoesForward before (slot.Ended e) now = before ≤ now
GoesForward before (slot.Asleep s) now = (before ≤ now) × ReadSince before s.alarm
GoesForward before slot.Refused now = before ≤ now

-- ---- the end of such a visit

-- where a visit left the session waiting for its wire, this comes of it then
abbrev pub EndsVisit : ℕ → Limit → Sleeper → Option (List Event) → Option (List Event) → Core → Core → Slot → Type 0
EndsVisit wire limit sleeper there after mid new s =
    (before : Option (List Event)) (old : Core) (c : Opening) →
    MakesRegisteredVisit wire sleeper.key before there old mid c (slot.Asleep sleeper) →
    TimedVisit wire sleeper.key (Some limit) before after old new c s
