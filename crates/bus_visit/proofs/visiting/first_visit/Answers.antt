use Rattle.bus_visit.proofs.TurnLemmas.{on-err}
use Rattle.bus_visit.proofs.VisitFrames.{failure-awake}
use Rattle.bus_visit.proofs.FirstVisit.{if-ok, refused-by, first-undialled, first-dialled, dials-keep, dialled-keeps, dialled-fails, dialled-runs-out}
use Rattle.bus_visit.proofs.TimedVisits.{forward-from, on-exhausted-map}
use Rattle.bus_visit.specs.declared.visiting.Slot.{Slot}
use Rattle.bus_visit.proofs.FailureLemmas.{on-poller-by}
use Rattle.bus_visit.proofs.visiting.first_visit.Goals as goal

pub returns-in_err-reached-clause-refused : goal.returns-in_err-reached-clause-refused
returns-in_err-reached-clause-refused g c =
    let told_ = c.in_err-reached.ensures.told in
    on-err c.from_residual.result
    (dials-keep c.args.wire told_.0 ((g.O.Tells.outer c.args.outside.now).events)
    ((g.O.Tells.outer c.dial.new.dialer).events) c.args.reactor.now.core c.requires.rests told_.1)

pub returns-in-Opened-clause-visited : goal.returns-in-Opened-clause-visited
returns-in-Opened-clause-visited g c =
    if-ok c.visit_opened.result
    (λ slot registers.
    first-dialled c.args.session.now c.args.wire c.in_ok-reached.reached c.in-Opened.opened
    ((g.O.Tells.outer c.args.outside.now).events) ((g.O.Tells.outer c.dial.new.dialer).events)
    ((g.O.Tells.outer c.visit_opened.new.outside).events) c.args.reactor.now.core c.visit_opened.new.reactor.core slot
    c.in_ok-reached.ensures.told c.in-Opened.is registers)
    c.visit_opened.ensures.visited

pub returns-in-Opened-clause-refused : goal.returns-in-Opened-clause-refused
returns-in-Opened-clause-refused g c =
    let told_ = c.in_ok-reached.ensures.told in
    refused-by c.visit_opened.result
    (λ keeps. dialled-keeps c.args.wire told_.0 ((g.O.Tells.outer c.args.outside.now).events)
    ((g.O.Tells.outer c.dial.new.dialer).events) ((g.O.Tells.outer c.visit_opened.new.outside).events)
    c.args.reactor.now.core c.visit_opened.new.reactor.core told_.1.gained keeps)
    c.visit_opened.ensures.refused

pub returns-clause-visited : goal.returns-clause-visited
returns-clause-visited g c =
    first-undialled c.args.session.now c.args.wire c.in_ok-reached.reached c.in-Failed.ending
    ((g.O.Tells.outer c.args.outside.now).events) ((g.O.Tells.outer c.dial.new.dialer).events)
    c.args.reactor.now.core c.unconnected.result c.in_ok-reached.ensures.told c.in-Failed.is
    (failure-awake c.args.wire c.in_ok-reached.reached c.in-Failed.ending (g.O.Tells.outer c.args.outside.now)
    (g.O.Tells.outer c.dial.new.dialer) c.in-Failed.is c.in_ok-reached.ensures.counted)
    c.unconnected.ensures.value

pub returns-in-Opened-clause-failed : goal.returns-in-Opened-clause-failed
returns-in-Opened-clause-failed g c =
    on-poller-by _ _ c.visit_opened.result (λ fails.
    dialled-fails c.args.session.now c.args.wire c.in_ok-reached.reached c.in-Opened.opened _ _ _ _
    c.args.reactor.now.core c.in_ok-reached.ensures.told c.in-Opened.is
    (rw c.dial.ensures.keeps.ample at fails)) c.visit_opened.ensures.failed

pub returns-in-Opened-clause-forward : goal.returns-in-Opened-clause-forward
returns-in-Opened-clause-forward g c =
    if-ok c.visit_opened.result (λ slot. forward-from _ _ slot _ c.dial.ensures.unread) c.visit_opened.ensures.forward

pub returns-in-Opened-clause-exhausted : goal.returns-in-Opened-clause-exhausted
returns-in-Opened-clause-exhausted g c =
    on-exhausted-map Slot _ _ c.visit_opened.result (λ out.
    dialled-runs-out c.args.session.now c.args.wire c.in_ok-reached.reached c.in-Opened.opened _ _ _ _
    c.args.reactor.now.core c.in_ok-reached.ensures.told c.in-Opened.is
    (rw c.dial.ensures.keeps.ample at out)) c.visit_opened.ensures.exhausted
