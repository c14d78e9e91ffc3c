use Rattle.std.proofs.Common.{◌≡◌, ◌*◌, ◌^◌, ◌≤◌, take}
use Rattle.bus_bulk.specs.Summary.{written_by}
use Rattle.bus_bulk.proofs.totals.written_by.Given as goal

abbrev pub invariant-loop-ended : goal.invariant-loop-ended
invariant-loop-ended l =
    (l.written ≡ written_by (take l.ended-index l.endeds)) × (l.written ≤ l.ended-index * 2 ^ 64)
