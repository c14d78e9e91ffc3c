-- How a poll of a wire in a direction goes.
use Rattle.std.specs.Prelude.{◌≡◌, ◌≢◌, ◌++◌, ℕ, false, IsTrue, if◌then◌else◌, List, [], Option, Some, None}
use Rattle.std.specs.Prelude.{Result, Ok, Err}
use Rattle.futures.specs.declared.task.Poll.{Poll}
use Rattle.futures.specs.declared.task.Poll.TheVariants.{Ready, Pending}
use Rattle.react_core.specs.declared.outside.Event.{Event}
use Rattle.react_core.specs.declared.outside.Fault.{Fault}
use Rattle.react_core.specs.declared.outside.Received.{Received}
use Rattle.react_core.specs.declared.outside.Received.TheVariants as received
use Rattle.react_core.specs.declared.outside.Sent.{Sent}
use Rattle.react_core.specs.declared.outside.Sent.TheVariants as sent
use Rattle.react_core.specs.declared.reactor.Dir.{Dir}
use Rattle.react_core.specs.declared.reactor.Dir.TheVariants.{Read, Write}
use Rattle.react_core.specs.declared.reactor.ReactError.{ReactError}
use Rattle.react_core.specs.declared.reactor.ReactError.TheVariants.{Poller, OutOfMemory, Exhausted}
use Rattle.react_core.specs.Core.{Core}
use Rattle.react_core.specs.Futures.{direction_at}
use Rattle.react_core.specs.Readiness.{fresh, arms, woken_by, poll_outcome, poll_told, after_poll, stored_task}
use Rattle.react_core.specs.Step.{Step, PolledPoll, Polled, WokeAll}
use Rattle.react_core.specs.Told.{told, recv_told, send_told, Counted, OnLack, IsReceived, IsSent}

-- ---- what a poll asks

-- a direction of the source under a key, a task that is to be woken, and a wire that answers with `A`
pub record Asking (A : Type 0) : Type 0 where
  pub key : ℕ
  pub dir : Dir
  pub task : ℕ
  -- the wire's answer that it isn't ready
  pub not_ready : A
  -- what one call of the wire tells, by its answer
  pub tells : Result A Fault → List Event

-- a read, after which these bytes stand in the slice
abbrev pub reading : ℕ → ℕ → ℕ → List ℕ → Asking Received
reading key wire task into =
    record { key = key; dir = Read; task = task; not_ready = received.NotReady; tells = recv_told wire into }

-- a write of these bytes
abbrev pub writing : ℕ → ℕ → ℕ → List ℕ → Asking Sent
writing key wire task bytes =
    record { key = key; dir = Write; task = task; not_ready = sent.NotReady; tells = send_told wire bytes }

-- what stands at a moment: the record of the outside, the core, and what takes the wakes
pub record Standing (W : Type 0) : Type 0 where
  pub events : Option (List Event)
  pub core : Core
  pub wakes : W

-- the answer of a wire, where `None` stands for this one, that it isn't ready
abbrev pub answer_of : {A : Type 0} → A → Option (Result A Fault) → Result A Fault
answer_of not_ready None = Ok not_ready
answer_of not_ready (Some answer) = answer

-- ---- how it goes

-- the wire is asked, and where it isn't ready its source, which isn't ready either
pub data Ending (A : Type 0) : Type 0 where
  -- the wire answers
  Answered : Result A Fault → Ending A
  -- neither is ready: the task waits
  Waits : Ending A
  -- the wire isn't ready, and the readiness poll is refused
  Refused : ReactError → Ending A

pub data Course (A : Type 0) : Type 0 where
  -- the wire is asked once
  Once : Ending A → Course A
  -- the wire isn't ready, but its source is; then the wire is asked again
  Again : Ending A → Course A

module _ {A W : Type 0} (woke : W → ℕ → W → Type 0) (a : Asking A) where
  -- what is answered, what is told, how the core moves and which tasks are woken, by how it ends
  abbrev pub Ends : Standing W → Standing W → Result (Poll (Result A Fault)) ReactError → Ending A → Type 0
  Ends old new result (Answered answer) = record {
    answered : answer ≢ Ok a.not_ready;
    answers : result ≡ Ok (Ready answer);
    gained : new.events ≡ told old.events (a.tells answer);
    core : new.core ≡ old.core;
    wakes : new.wakes ≡ old.wakes;
  }
  Ends old new result Waits = record {
    unready : fresh old.core a.key a.dir ≡ false;
    answers : result ≡ Ok Pending;
    gained : new.events ≡
        told old.events (a.tells (Ok a.not_ready) ++ poll_told old.core a.key a.dir a.task (Ok Pending));
    step : Step old.core (PolledPoll a.key a.dir a.task) (Polled Pending)
        (woken_by (poll_outcome old.core a.key a.dir a.task)) new.core;
    wakes : WokeAll woke old.wakes (woken_by (poll_outcome old.core a.key a.dir a.task)) new.wakes;
  }
  Ends old new result (Refused e) = record {
    arms : IsTrue (arms (poll_outcome old.core a.key a.dir a.task));
    answers : result ≡ Err e;
    gained : new.events ≡
        told old.events (a.tells (Ok a.not_ready) ++ poll_told old.core a.key a.dir a.task (Err e));
    core : new.core ≡ old.core;
    wakes : new.wakes ≡ old.wakes;
  }

  -- a source that is ready tells nothing, wakes nobody, and its interest is forgotten
  abbrev pub Goes : Standing W → Standing W → Result (Poll (Result A Fault)) ReactError → Course A → Type 0
  Goes old new result (Once ending) = Ends old new result ending
  Goes old new result (Again ending) = record {
    fresh : IsTrue (fresh old.core a.key a.dir);
    mid : Standing W;
    gained : mid.events ≡ told old.events (a.tells (Ok a.not_ready));
    step : Step old.core (PolledPoll a.key a.dir a.task) (Polled (Ready tt)) [] mid.core;
    wakes : mid.wakes ≡ old.wakes;
    ends : Ends mid new result ending;
  }

-- ---- what holds of an answer

module _ {A : Type 0} where
  -- what holds of the wire's answer, where the poll is ready with one
  abbrev pub IfReady : Result (Poll A) ReactError → (A → Type 0) → Type 0
  IfReady (Ok (Ready answer)) P = P answer
  IfReady (Ok Pending) P = Unit {0}
  IfReady (Err e) P = Unit {0}

  -- what holds where the poll is pending
  abbrev pub OnPending : Result (Poll A) ReactError → Type 0 → Type 0
  OnPending (Ok (Ready answer)) P = Unit {0}
  OnPending (Ok Pending) P = P
  OnPending (Err e) P = Unit {0}

  -- the answer is Ready with Failed exactly where this count rose
  abbrev pub WireCounted : Result (Poll (Result A Fault)) ReactError → ℕ → ℕ → Type 0
  WireCounted (Ok (Ready answer)) before now = Counted answer before now
  WireCounted (Ok Pending) before now = now ≡ before
  WireCounted (Err e) before now = now ≡ before

  -- what holds where memory is lacking, whether the wire or the readiness poll lacks it
  abbrev pub OnPollLack : Result (Poll (Result A Fault)) ReactError → Type 0 → Type 0
  OnPollLack (Ok (Ready answer)) P = OnLack answer P
  OnPollLack (Ok Pending) P = Unit {0}
  OnPollLack (Err Poller) P = Unit {0}
  OnPollLack (Err OutOfMemory) P = P
  OnPollLack (Err (Exhausted counter value)) P = ⊥

-- the core, where a readiness of the key's direction that there was is used up
abbrev pub without_readiness : Core → ℕ → Dir → ℕ → Core
without_readiness core key dir task = if fresh core key dir then after_poll core key dir task else core

-- the task is the one that is to be woken when the direction is reported
abbrev pub IsStored : Core → ℕ → Dir → ℕ → Type 0
IsStored core key dir task = stored_task (direction_at core key dir).polled ≡ Some task

-- an answer other than that the wire isn't ready: a fault, the end, or at least one byte where one was asked for
abbrev pub IsRead : ℕ → Result Received Fault → Type 0
IsRead asked (Ok (received.Got n)) = IsReceived asked (received.Got n)
IsRead asked (Ok received.End) = Unit {0}
IsRead asked (Ok received.NotReady) = ⊥
IsRead asked (Err e) = Unit {0}

-- an answer other than that the wire isn't ready: a fault, or at least one byte where one was offered
abbrev pub IsWritten : ℕ → Result Sent Fault → Type 0
IsWritten offered (Ok (sent.Took n)) = IsSent offered (sent.Took n)
IsWritten offered (Ok sent.NotReady) = ⊥
IsWritten offered (Err e) = Unit {0}
