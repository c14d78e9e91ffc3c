use Rattle.bus_opening.specs.Openings.{RunsOpening, left_over}
use Rattle.bus_opening.proofs.exchange.Exchange.converse.Given as goal

abbrev pub invariant-loop-step : goal.invariant-loop-step
invariant-loop-step g l = RunsOpening g.row.W-Origin.Denot l.wire l.initial.self l.self
    (g.W.Tells.outer l.initial.outside)
    (g.W.Tells.outer l.outside)

abbrev pub decreases-loop-step : goal.decreases-loop-step
decreases-loop-step g l = left_over l.self
