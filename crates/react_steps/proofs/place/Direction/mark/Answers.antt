use Rattle.react_steps.proofs.Rows.{rises-without_tasks}
use Rattle.react_steps.proofs.place.Direction.mark.Goals as goal

pub invariant_of-self-2 : goal.invariant_of-self-2
invariant_of-self-2 c = rw c.clear_tasks.ensures (rises-without_tasks 0 c.self.inside.futures.items c.self.invariant)
