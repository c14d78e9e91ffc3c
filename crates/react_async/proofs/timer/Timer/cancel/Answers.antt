use Rattle.react_async.proofs.Timers.{cleared-gone}
use Rattle.react_async.proofs.timer.Timer.cancel.Goals as goal

pub returns-in-Ok-clause-gone : goal.returns-in-Ok-clause-gone
returns-in-Ok-clause-gone c = rw (← c.self.view_is) (cleared-gone _ _ _ _ c.unregister.ensures.core)
