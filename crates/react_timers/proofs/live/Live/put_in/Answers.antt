use Rattle.std.proofs.Common.{ap, arith}
use Rattle.react_timers.specs.Slots.{LiveTable}
use Rattle.react_timers.proofs.Slots.{fewer-lives}
use Rattle.react_timers.proofs.live.Live.put_in.Goals as goal

pub overflow_add-self : goal.overflow_add-self
overflow_add-self c =
    let few = fewer-lives c.self.inside.slots.items in
    let used = ap (λ (l : LiveTable). l.used) c.self.view_is in
    let places = ap (λ (l : LiveTable). l.places) c.self.view_is in
    omega (arith, few, used, places, c.requires, c.self.invariant.count)
