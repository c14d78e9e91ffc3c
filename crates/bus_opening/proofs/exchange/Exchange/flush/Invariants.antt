use Rattle.std.proofs.Common.{◌≡◌}
use Rattle.bus_opening.specs.Openings.{RunsOpening, pending}
use Rattle.bus_opening.proofs.exchange.Exchange.flush.Given as goal

abbrev pub invariant-loop-self : goal.invariant-loop-self
invariant-loop-self g l = RunsOpening g.row.W-Origin.Denot l.wire l.initial.self l.self
    (g.W.Tells.outer l.initial.outside)
    (g.W.Tells.outer l.outside)
    × (l.self ≡ record l.initial.self { waiting = l.self.waiting; written = l.self.written })

abbrev pub decreases-loop-self : goal.decreases-loop-self
decreases-loop-self g l = pending l.self
