use Rattle.bus_peers.proofs.ClosingLemmas.{EndsSo}
use Rattle.bus_peers.proofs.closing.endeds_in.Given as goal

abbrev pub invariant-loop-slot : goal.invariant-loop-slot
invariant-loop-slot l = EndsSo l.fn.slots.items l.slot-iterator.rest.items l.endeds.items l.wire
