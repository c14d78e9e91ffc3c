use Rattle.std.proofs.Common.{◌∙◌, sym, ap, is_some, rules}
use Rattle.react_core.specs.Places.{Direction}
use Rattle.react_core.specs.Readiness.{stored_task}
use Rattle.react_core.specs.Ticks.{place_of}
use Rattle.react_core.proofs.Holding.{some_task-left, some_task-none, has_task-stored}
use Rattle.react_core.proofs.interest.Interest.waits.Goals as goal

pub returns-then-self-len : goal.returns-then-self-len
returns-then-self-len c =
    rw (← c.self.view_is, some_task-left c.self.inside.taken c.self.inside.futures c.self.invariant.taken (rw c.len.ensures at c.if-self-len.true)) (search rules)

pub returns-else-self-len : goal.returns-else-self-len
returns-else-self-len c =
    rw (← c.self.view_is, some_task-none c.self.inside.taken c.self.inside.futures c.self.invariant.taken (rw c.len.ensures at c.if-self-len.false))
    (c.is_some.ensures ∙ ap is_some (c.task.ensures ∙ ap (λ (d : Direction). stored_task d.polled) (sym c.self.view_is)) ∙ sym (has_task-stored (place_of c.self.inside.polled)))
