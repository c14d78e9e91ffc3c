-- An operation on a handle, and the future that waits for its next call: what contracts see of them, and what their
-- polls do.
use Rattle.std.specs.Prelude.{◌≡◌, ℕ, List, [], Some, None, Result, Ok, Err}
use Rattle.futures.specs.declared.task.Poll.{Poll}
use Rattle.futures.specs.declared.task.Poll.TheVariants.{Ready, Pending}
use Rattle.react_core.specs.declared.outside.Event.{Event}
use Rattle.react_core.specs.declared.reactor.Dir.{Dir}
use Rattle.react_core.specs.declared.reactor.ReactError.{ReactError}
use Rattle.react_core.specs.Core.{Core}
use Rattle.react_core.specs.Futures.{futures_at}
use Rattle.react_core.specs.Keyed.{at_key}
use Rattle.react_core.specs.Step.{Step, FuturePoll, Polled}
use Rattle.react_async.specs.declared.operation.IoAnswer.{IoAnswer}
use Rattle.react_async.specs.declared.operation.IoAnswer.TheVariants.{Done, NotReady}
use Rattle.react_async.specs.Waits.{Waits, place_of, waiting_told}

-- what contracts see of an operation
pub record Operation (T F : Type 0) : Type 0 where
  -- the handle that it is called with
  pub io : T
  pub op : F
  -- the future that waits until it is called again
  pub future : Waits

-- what the operation answered in a poll: a refusal comes only after NotReady
abbrev pub io_answer : {X E : Type 0} → Result (Poll X) E → IoAnswer X
io_answer (Ok (Ready x)) = Done x
io_answer (Ok Pending) = NotReady
io_answer (Err error) = NotReady

-- what holds where the poll is Pending
abbrev pub OnPending : {X E : Type 0} → Result (Poll X) E → Type 0 → Type 0
OnPending (Ok (Ready x)) P = Unit {0}
OnPending (Ok Pending) P = P
OnPending (Err error) P = Unit {0}

-- what holds where it is Ready
abbrev pub OnReady : {X E : Type 0} → Result (Poll X) E → Type 0 → Type 0
OnReady (Ok (Ready x)) P = P
OnReady (Ok Pending) P = Unit {0}
OnReady (Err error) P = Unit {0}

-- the first poll of a future, for this task: it gets a place that was free
abbrev pub FirstPoll : Core → Dir → ℕ → ℕ → Waits → Core → Type 0
FirstPoll old dir key task future new = record {
  kept : future ≡ record { key = key; place = Some (place_of future) };
  free : at_key (futures_at old key dir) (place_of future) ≡ None;
  step : Step old (FuturePoll key dir (place_of future) task) (Polled Pending) [] new;
}

-- what is told after the operation: what the first poll of this future tells, where there is one
abbrev pub operation_told : {X : Type 0} → Core → Dir → Waits → Result (Poll X) ReactError → List Event
operation_told core dir future (Ok (Ready x)) = []
operation_told core dir future (Ok Pending) = waiting_told core dir future (Ok Pending)
operation_told core dir future (Err error) = waiting_told core dir future (Err error)
