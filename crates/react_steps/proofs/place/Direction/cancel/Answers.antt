use Rattle.react_core.proofs.Keyed.{KeysRiseFrom-without_at}
use Rattle.react_steps.proofs.place.Direction.cancel.Goals as goal

pub invariant_of-self : goal.invariant_of-self
invariant_of-self c = rw c.take_row.ensures (KeysRiseFrom-without_at 0 c.self.inside.futures.items c.args.place c.self.invariant)
