use Rattle.react_async.proofs.Timers.{cleared-gone}
use Rattle.react_async.proofs.timer.Timer.clear.Goals as goal

pub returns-clause-gone : goal.returns-clause-gone
returns-clause-gone c = rw (← c.self.view_is) (cleared-gone _ _ _ _ c.unregister.ensures.core)
