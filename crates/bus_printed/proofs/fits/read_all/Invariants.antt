use Rattle.std.proofs.Common.{take}
use Rattle.std.specs.List.{All}
use Rattle.bus_printed.proofs.fits.read_all.Given as goal

abbrev pub invariant-loop-value : goal.invariant-loop-value
invariant-loop-value g l = All g.T.Fitting.fits (take l.value-index l.values)
