use Rattle.std.proofs.Common.{◌≤◌, length}
use Rattle.bus_edges.proofs.dialling.nonce_in.Given as goal

abbrev pub invariant-loop : goal.invariant-loop
invariant-loop g l = length l.bytes.items ≤ 65536
