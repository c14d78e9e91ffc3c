use Rattle.std.proofs.Common.{[], rules}
use Rattle.react_timers.specs.declared.timer.TimerOp.TheVariants.{Remove}
use Rattle.react_core.specs.Step.{Push, Done}
use Rattle.react_core.specs.Steps.{one-step, then-steps}
use Rattle.react_core.proofs.reactor.Reactor.remove_timer.Goals as goal

pub returns-clause-steps : goal.returns-clause-steps
returns-clause-steps c =
    then-steps c.make_queue_place.ensures.steps (one-step (Push (Remove c.args.when c.args.number)) Done [] (search rules))
