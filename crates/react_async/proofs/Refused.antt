-- What an operation answered where its poll was refused.
use Rattle.std.proofs.Common.{◌≡◌, Result, Ok, Err, refl}
use Rattle.std.specs.Result.{IsErr}
use Rattle.futures.specs.declared.task.Poll.{Poll}
use Rattle.react_async.specs.declared.operation.IoAnswer.TheVariants.{NotReady}
use Rattle.react_async.specs.Operation.{io_answer}

pub io_answer-err : {X E : Type 0} (answer : Result (Poll X) E) → IsErr answer → io_answer answer ≡ NotReady
io_answer-err (Ok value) refused = absurd (cc)
io_answer-err (Err error) refused = refl
