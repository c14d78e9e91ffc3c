use Rattle.react_steps.proofs.place.Direction.poll_future.Goals as goal

pub invariant_of-self : goal.invariant_of-self
invariant_of-self c = c.store.ensures.rises

pub invariant_of-self-2 : goal.invariant_of-self-2
invariant_of-self-2 c = c.store.ensures.rises
