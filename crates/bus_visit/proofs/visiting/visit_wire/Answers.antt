use Rattle.std.proofs.Common.{ap}
use Rattle.bus_visit.specs.Visited as turn_end
use Rattle.bus_visit.proofs.TurnLemmas.{on-err}
use Rattle.bus_visit.proofs.StayLemmas.{keeps-removed, kept-turns, kept-source, turns-source, stays-asleep, stays-ended, visit-unarmed, visit-undeleted}
use Rattle.bus_visit.proofs.VisitFrames.{keeps-visit, ended-counted}
use Rattle.bus_visit.proofs.FailureLemmas.{on-poller, if-poller-by, at-poller}
use Rattle.bus_visit.proofs.visiting.visit_wire.Goals as goal

pub remove_io-requires : goal.remove_io-requires
remove_io-requires g c =
    turns-source c.args.wire c.args.key _ _ c.args.reactor.now.core c.resume.new.reactor.core
    c.args.client c.resume.new.client (turn_end.Over c.in-Ok-Some.ending) c.requires.holds
    (rw c.in-Ok-Some.field-0-is at c.in-Ok-Some.ensures.resumed)

pub returns-in_err-remove_io-in-Ok-Some-clause-refused : goal.returns-in_err-remove_io-in-Ok-Some-clause-refused
returns-in_err-remove_io-in-Ok-Some-clause-refused g c = on-err _ (keeps-removed c.args.key c.remove_io.result _ _ _ c.args.reactor.now.core c.resume.new.reactor.core c.remove_io.new.self.core
    (kept-turns c.args.wire c.args.key _ _ c.args.reactor.now.core c.resume.new.reactor.core c.args.client c.resume.new.client (turn_end.Over c.in-Ok-Some.ending)
    (rw c.in-Ok-Some.field-0-is at c.in-Ok-Some.ensures.resumed)) (ap (λ x. x.core) c.remove_io.ensures.removed) c.remove_io.ensures.told)

pub returns-in_err-ended_of-in-Ok-Some-clause-refused : goal.returns-in_err-ended_of-in-Ok-Some-clause-refused
returns-in_err-ended_of-in-Ok-Some-clause-refused g c = on-err _ (keeps-removed c.args.key c.remove_io.result _ _ _ c.args.reactor.now.core c.resume.new.reactor.core c.remove_io.new.self.core
    (kept-turns c.args.wire c.args.key _ _ c.args.reactor.now.core c.resume.new.reactor.core c.args.client c.resume.new.client (turn_end.Over c.in-Ok-Some.ending)
    (rw c.in-Ok-Some.field-0-is at c.in-Ok-Some.ensures.resumed)) (ap (λ x. x.core) c.remove_io.ensures.removed) c.remove_io.ensures.told)

pub remove_io-requires-in-Err : goal.remove_io-requires-in-Err
remove_io-requires-in-Err g c = kept-source c.args.reactor.now.core c.resume.new.reactor.core c.args.key c.args.wire c.requires.holds c.in-Err.ensures.refused.1.tags

pub returns-in-Ok-None-clause-visited : goal.returns-in-Ok-None-clause-visited
returns-in-Ok-None-clause-visited g c = stays-asleep c.args.wire c.args.key _ _ c.args.reactor.now.core c.resume.new.reactor.core c.args.client c.resume.new.client
    (rw c.in-Ok-None.field-0-is at c.in-Ok-None.ensures.resumed)

pub returns-in_ok-ended_of-in-Ok-Some-clause-visited : goal.returns-in_ok-ended_of-in-Ok-Some-clause-visited
returns-in_ok-ended_of-in-Ok-Some-clause-visited g c =
    stays-ended c.args.wire c.args.key _ _ _ c.args.reactor.now.core c.resume.new.reactor.core
    c.remove_io.new.self.core c.args.client c.resume.new.client
    c.in-Ok-Some.ending c.in_ok-remove_io-in-Ok-Some.field-0 c.in_ok-ended_of-in-Ok-Some.field-0
    (rw c.in-Ok-Some.field-0-is at c.in-Ok-Some.ensures.resumed) (ap (λ x. x.core) c.remove_io.ensures.removed)
    c.in_ok-remove_io-in-Ok-Some.ensures.told c.in_ok-ended_of-in-Ok-Some.ensures.value

pub returns-in-Err-clause-refused : goal.returns-in-Err-clause-refused
returns-in-Err-clause-refused g c = keeps-removed c.args.key c.remove_io-in-Err.result _ _ _ c.args.reactor.now.core c.resume.new.reactor.core c.remove_io-in-Err.new.self.core
    c.in-Err.ensures.refused (ap (λ x. x.core) c.remove_io-in-Err.ensures.removed) c.remove_io-in-Err.ensures.told

pub returns-in_err-remove_io-in-Ok-Some-clause-keeps : goal.returns-in_err-remove_io-in-Ok-Some-clause-keeps
returns-in_err-remove_io-in-Ok-Some-clause-keeps g c = keeps-visit c.args.wire _ _ _ c.resume.ensures.keeps c.remove_io.ensures.keeps

pub returns-in_err-ended_of-in-Ok-Some-clause-keeps : goal.returns-in_err-ended_of-in-Ok-Some-clause-keeps
returns-in_err-ended_of-in-Ok-Some-clause-keeps g c = keeps-visit c.args.wire _ _ _ c.resume.ensures.keeps c.remove_io.ensures.keeps

pub returns-in_ok-ended_of-in-Ok-Some-clause-keeps : goal.returns-in_ok-ended_of-in-Ok-Some-clause-keeps
returns-in_ok-ended_of-in-Ok-Some-clause-keeps g c = keeps-visit c.args.wire _ _ _ c.resume.ensures.keeps c.remove_io.ensures.keeps

pub returns-in-Err-clause-keeps : goal.returns-in-Err-clause-keeps
returns-in-Err-clause-keeps g c = keeps-visit c.args.wire _ _ _ c.resume.ensures.keeps c.remove_io-in-Err.ensures.keeps

pub returns-in_ok-ended_of-in-Ok-Some-clause-counted : goal.returns-in_ok-ended_of-in-Ok-Some-clause-counted
returns-in_ok-ended_of-in-Ok-Some-clause-counted g c =
    ended-counted c.args.wire c.in-Ok-Some.ending c.in_ok-ended_of-in-Ok-Some.field-0 _ _ _
    (ap (λ e. e.ending) c.in_ok-ended_of-in-Ok-Some.ensures.value)
    (rw c.in-Ok-Some.field-0-is at c.in-Ok-Some.ensures.counted) c.remove_io.ensures.keeps

pub returns-in_err-remove_io-in-Ok-Some-clause-failed : goal.returns-in_err-remove_io-in-Ok-Some-clause-failed
returns-in_err-remove_io-in-Ok-Some-clause-failed g c =
    on-poller _ c.from_residual.result c.in_err-remove_io-in-Ok-Some.field-0.0 c.from_residual.ensures.1
    (at-poller _ c.in_err-remove_io-in-Ok-Some.field-0.0 (λ is.
    visit-undeleted _ _ c.args.wire c.args.key _ _ _ c.args.reactor.now.core c.resume.new.reactor.core
    c.args.client c.resume.new.client c.in-Ok-Some.ending
    (rw c.in-Ok-Some.field-0-is at c.in-Ok-Some.ensures.resumed)
    (rw is at c.in_err-remove_io-in-Ok-Some.ensures.told)))

pub returns-in-Err-clause-failed : goal.returns-in-Err-clause-failed
returns-in-Err-clause-failed g c =
    if-poller-by _ _ c.in-Err.refusal (λ f.
    visit-unarmed _ c.args.wire c.args.key _ _ _ c.args.reactor.now.core c.resume.new.reactor.core
    c.args.client c.remove_io-in-Err.result c.requires.holds c.in-Err.ensures.refused.1.tags f
    (rw c.in-Err.ensures.keeps.ample at c.remove_io-in-Err.ensures.memory) c.remove_io-in-Err.ensures.told)
    c.in-Err.ensures.failed
