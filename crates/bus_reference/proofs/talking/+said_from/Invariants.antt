use Rattle.std.proofs.Common.{length}
use Rattle.bus_reference.proofs.talking.+said_from.Given as goal

abbrev pub decreases-said_from : goal.decreases-said_from
decreases-said_from l = length l.lines.now
