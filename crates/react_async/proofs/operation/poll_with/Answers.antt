use Rattle.react_core.specs.Steps.{then-steps}
use Rattle.react_async.proofs.Refused.{io_answer-err}
use Rattle.react_async.proofs.operation.poll_with.Goals as goal

pub returns-in_ok-poll_kept-in-NotReady-clause-steps : goal.returns-in_ok-poll_kept-in-NotReady-clause-steps
returns-in_ok-poll_kept-in-NotReady-clause-steps g c =
    then-steps c.cancel_kept.ensures.steps c.poll_kept.ensures.steps

pub returns-in_err-poll_kept-in-NotReady-clause-called : goal.returns-in_err-poll_kept-in-NotReady-clause-called
returns-in_err-poll_kept-in-NotReady-clause-called g c =
    rw (io_answer-err c.from_residual.result c.from_residual.ensures.0)
    (record { shown = c.get_ref.result; shows = c.get_ref.ensures; called = rw c.in-NotReady.is at c.op.ensures })
