use Rattle.bus_visit.specs.Timed.{over, untimed}
use Rattle.bus_visit.proofs.FailureLemmas.{on-poller-by}
use Rattle.bus_visit.proofs.FirstVisit.{refused-by}
use Rattle.bus_visit.proofs.TimedVisits.{asleep-keeps, asleep-fails}
use Rattle.bus_visit.proofs.visiting.visit_timed.Goals as goal

pub returns-in-Some-clause-refused : goal.returns-in-Some-clause-refused
returns-in-Some-clause-refused g c =
    refused-by c.wait_or_time_out.result
    (asleep-keeps c.args.wire c.args.key c.in-Asleep.sleeper _ _ _ c.args.reactor.now.core c.visit_wire.new.reactor.core
    c.wait_or_time_out.new.reactor.core c.args.client (rw c.in-Asleep.is at c.in_ok-slot.ensures.visited))
    c.wait_or_time_out.ensures.refused

pub returns-in-Some-clause-failed : goal.returns-in-Some-clause-failed
returns-in-Some-clause-failed g c =
    on-poller-by _ _ c.wait_or_time_out.result (λ fails. rw c.in-Some.is
    (asleep-fails c.args.wire c.args.key c.in-Some.limit c.in-Asleep.sleeper _ _ _ _ c.args.reactor.now.core
    c.visit_wire.new.reactor.core c.args.client (rw c.in-Asleep.is at c.in_ok-slot.ensures.visited)
    (rw c.in_ok-slot.ensures.keeps.ample at fails))) c.wait_or_time_out.ensures.failed

pub returns-in-None-clause-visited : goal.returns-in-None-clause-visited
returns-in-None-clause-visited g c =
    untimed c.in-Asleep.sleeper c.in-None.is (rw c.in-Asleep.is at c.in_ok-slot.ensures.visited)

pub returns-in-Ended-clause-visited : goal.returns-in-Ended-clause-visited
returns-in-Ended-clause-visited g c = over c.in-Ended.ended (rw c.in-Ended.is at c.in_ok-slot.ensures.visited)
