use Rattle.std.proofs.Common.{◌≡◌}
use Rattle.bus_open.proofs.standard.StandardOutputSink.write.Given as goal

abbrev pub invariant-loop : goal.invariant-loop
invariant-loop g l = l.self-inside.faults ≡ l.fn.self
