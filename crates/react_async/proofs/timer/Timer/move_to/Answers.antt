use Rattle.react_async.proofs.Timers.{asked-then}
use Rattle.react_async.proofs.timer.Timer.move_to.Goals as goal

pub returns-clause-asked : goal.returns-clause-asked
returns-clause-asked g c =
    rw (← c.self.view_is)
    (asked-then c.args.when c.args.task _ _ _ _ _ _ c.in_ok-kept.ensures.asked c.unregister.ensures.core
    c.unregister.ensures.steps)
