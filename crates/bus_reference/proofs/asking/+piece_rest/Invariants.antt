use Rattle.std.proofs.Common.{length}
use Rattle.bus_reference.proofs.asking.+piece_rest.Given as goal

abbrev pub decreases-piece_rest : goal.decreases-piece_rest
decreases-piece_rest l = length l.pieces.now
