use Rattle.bus_visit.proofs.FailureLemmas.{on-poller}
use Rattle.bus_visit.proofs.NotReadyNotes.{readied, holds-source, refused-note}
use Rattle.bus_visit.proofs.noting.note_not_ready.Goals as goal

pub poll_ready-requires : goal.poll_ready-requires
poll_ready-requires g c = holds-source c.args.reactor.now.core c.args.key c.args.wire c.requires.holds

pub returns-in-Ready-clause-readied : goal.returns-in-Ready-clause-readied
returns-in-Ready-clause-readied g c =
    rw c.in-Ready.is at (readied c.args.reactor.now.core c.poll_ready.new.self.core c.args.wire c.args.key c.args.dir
    c.in_ok-poll_ready.field-0 _ _ c.requires.rests c.requires.holds
    (rw c.from.ensures at c.in_ok-poll_ready.ensures.step) (rw c.from.ensures at c.in_ok-poll_ready.ensures.told))

pub returns-in-Pending-clause-readied : goal.returns-in-Pending-clause-readied
returns-in-Pending-clause-readied g c =
    rw c.in-Pending.is at (readied c.args.reactor.now.core c.poll_ready.new.self.core c.args.wire c.args.key
    c.args.dir c.in_ok-poll_ready.field-0 _ _ c.requires.rests c.requires.holds
    (rw c.from.ensures at c.in_ok-poll_ready.ensures.step) (rw c.from.ensures at c.in_ok-poll_ready.ensures.told))

pub returns-in_err-poll_ready-clause-failed : goal.returns-in_err-poll_ready-clause-failed
returns-in_err-poll_ready-clause-failed g c =
    on-poller _ c.from_residual.result c.in_err-poll_ready.field-0.0 c.from_residual.ensures.1
    (refused-note c.args.reactor.now.core c.args.wire c.from.result c.args.key c.args.dir
    c.in_err-poll_ready.field-0.0 _ _ c.from.ensures c.requires.rests c.requires.holds
    c.in_err-poll_ready.ensures.refused c.in_err-poll_ready.ensures.told)
