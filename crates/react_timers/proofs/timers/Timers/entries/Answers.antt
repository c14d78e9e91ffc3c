use Rattle.react_timers.proofs.Counts.{live-le-entries}
use Rattle.react_timers.proofs.timers.Timers.entries.Goals as goal

pub returns-clause-least : goal.returns-clause-least
returns-clause-least c =
    let least = live-le-entries c.self.inside.entries.items c.self.inside.live.items c.self.invariant.held in
    rw (← c.self.view_is, c.len.ensures) least
