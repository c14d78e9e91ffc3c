use Rattle.std.proofs.Common.{inl, inr, refl, ◌∙◌}
use Rattle.react_core.specs.Outer.{keeps-same, keeps-then}
use Rattle.react_core.specs.Outer as part
use Rattle.bus_visit.specs.Visited as turn_end
use Rattle.bus_visit.proofs.VisitFrames.{keeps-conversed, keeps-noted, over-counted}
use Rattle.bus_visit.specs.laws.Faults.{ending-within, rises-same, rises-visit}
use Rattle.bus_visit.proofs.TurnLemmas.{on-err, keeps-lack, keeps-stop, turned-over, turned-stop, ends-asleep, ends-again, readied-onward, turns-fail}
use Rattle.bus_visit.proofs.TurnLemmas.{turning-more, turning-keeps, turning-holds, turning-rests, turning-open}
use Rattle.bus_visit.proofs.FailureLemmas.{on-poller, if-poller-by}
use Rattle.bus_visit.proofs.visiting.resume.Goals as goal

pub loop-ending-init : goal.loop-ending-init
loop-ending-init g c = record {
  turning = inl (refl, refl, refl);
  poller = refl;
  keeps = keeps-same (part.Visit c.args.wire) _;
  unread = refl;
  reports = refl;
}

pub converse-requires : goal.converse-requires
converse-requires g c =
    record {
      «open» = turning-open c.args.wire c.args.key _ _ c.args.reactor.now.core c.loop-ending.reactor.core c.args.client.now
          c.loop-ending.client c.requires.open c.loop-ending.invariant.turning;
    }

pub note_not_ready-requires-clause-holds : goal.note_not_ready-requires-clause-holds
note_not_ready-requires-clause-holds g c =
    turning-holds c.args.wire c.args.key _ _ c.args.reactor.now.core c.loop-ending.reactor.core c.args.client.now c.loop-ending.client
    c.requires.holds c.loop-ending.invariant.turning

pub note_not_ready-requires-clause-rests : goal.note_not_ready-requires-clause-rests
note_not_ready-requires-clause-rests g c =
    turning-rests c.args.wire c.args.key _ _ c.args.reactor.now.core c.loop-ending.reactor.core c.args.client.now c.loop-ending.client
    c.requires.rests c.loop-ending.invariant.turning

pub returns-in_err-ending-clause-refused : goal.returns-in_err-ending-clause-refused
returns-in_err-ending-clause-refused g c =
    let rests = turning-rests c.args.wire c.args.key _ _ c.args.reactor.now.core c.loop-ending.reactor.core c.args.client.now c.loop-ending.client
    c.requires.rests c.loop-ending.invariant.turning in
    on-err c.from_residual.result
    (turning-keeps c.args.wire c.args.key _ _ _ c.args.reactor.now.core c.loop-ending.reactor.core
    c.loop-ending.reactor.core c.args.client.now c.loop-ending.client
    c.loop-ending.invariant.turning
    (keeps-lack c.args.wire _ _ c.loop-ending.reactor.core c.loop-ending.client c.converse.new.client rests c.in_err-ending.ensures.interrupted))

pub returns-in-Over-clause-resumed : goal.returns-in-Over-clause-resumed
returns-in-Over-clause-resumed g c =
    let holds = turning-holds c.args.wire c.args.key _ _ c.args.reactor.now.core c.loop-ending.reactor.core c.args.client.now c.loop-ending.client
    c.requires.holds c.loop-ending.invariant.turning in
    let rests = turning-rests c.args.wire c.args.key _ _ c.args.reactor.now.core c.loop-ending.reactor.core c.args.client.now c.loop-ending.client
    c.requires.rests c.loop-ending.invariant.turning in
    turning-more c.args.wire c.args.key _ _ _ c.args.reactor.now.core c.loop-ending.reactor.core
    c.loop-ending.reactor.core c.args.client.now c.loop-ending.client c.converse.new.client
    (turn_end.Over c.in-Over.ending) c.loop-ending.invariant.turning
    (turned-over c.args.wire c.args.key _ _ c.loop-ending.reactor.core c.loop-ending.client c.converse.new.client c.in-Over.ending holds rests
    (rw c.in-Over.is at c.in_ok-ending.ensures.conversed))

pub returns-in_err-note_not_ready-in-Paused-clause-refused : goal.returns-in_err-note_not_ready-in-Paused-clause-refused
returns-in_err-note_not_ready-in-Paused-clause-refused g c =
    on-err c.from_residual-in_err-note_not_ready-in-Paused.result
    (turning-keeps c.args.wire c.args.key _ _ _ c.args.reactor.now.core c.loop-ending.reactor.core
    c.note_not_ready.new.reactor.core c.args.client.now c.loop-ending.client
    c.loop-ending.invariant.turning
    (keeps-stop c.args.wire c.in-Paused.dir _ _ _ c.loop-ending.reactor.core
    c.note_not_ready.new.reactor.core c.loop-ending.client c.converse.new.client
    (rw c.in-Paused.is at c.in_ok-ending.ensures.conversed) c.in_err-note_not_ready-in-Paused.ensures.refused))

pub returns-then-not-branch-clause-resumed : goal.returns-then-not-branch-clause-resumed
returns-then-not-branch-clause-resumed g c =
    turning-more c.args.wire c.args.key _ _ _ c.args.reactor.now.core c.loop-ending.reactor.core
    c.note_not_ready.new.reactor.core c.args.client.now c.loop-ending.client c.converse.new.client
    turn_end.Asleep c.loop-ending.invariant.turning
    (turned-stop c.args.wire c.args.key c.in-Paused.dir _ _ _ c.loop-ending.reactor.core
    c.note_not_ready.new.reactor.core c.loop-ending.client c.converse.new.client
    c.in_ok-note_not_ready-in-Paused.field-0 turn_end.Asleep
    (rw c.in-Paused.is at c.in_ok-ending.ensures.conversed) c.in_ok-note_not_ready-in-Paused.ensures.readied
    (ends-asleep c.in_ok-note_not_ready-in-Paused.field-0 c.if-not-branch.true))

pub loop-ending-smaller : goal.loop-ending-smaller
loop-ending-smaller g c =
    readied-onward c.args.wire c.args.key c.in-Paused.dir _ _ c.loop-ending.reactor.core
    c.note_not_ready.new.reactor.core
    c.in_ok-note_not_ready-in-Paused.field-0 turn_end.Again c.in_ok-note_not_ready-in-Paused.ensures.readied
    (ends-again c.in_ok-note_not_ready-in-Paused.field-0 c.if-not-branch.false)

pub loop-ending-preserved : goal.loop-ending-preserved
loop-ending-preserved g c = record {
  turning = inr (turning-more c.args.wire c.args.key _ _ _ c.args.reactor.now.core c.loop-ending.reactor.core
      c.note_not_ready.new.reactor.core c.args.client.now c.loop-ending.client c.converse.new.client
      turn_end.Again c.loop-ending.invariant.turning
      (turned-stop c.args.wire c.args.key c.in-Paused.dir _ _ _ c.loop-ending.reactor.core
      c.note_not_ready.new.reactor.core c.loop-ending.client c.converse.new.client
      c.in_ok-note_not_ready-in-Paused.field-0 turn_end.Again
      (rw c.in-Paused.is at c.in_ok-ending.ensures.conversed) c.in_ok-note_not_ready-in-Paused.ensures.readied
      (ends-again c.in_ok-note_not_ready-in-Paused.field-0 c.if-not-branch.false)));
  poller = c.in_ok-note_not_ready-in-Paused.ensures.cause
      ∙ (c.converse.ensures.keeps.poller ∙ c.loop-ending.invariant.poller);
  keeps = keeps-then (part.Visit c.args.wire) _ _ _ c.loop-ending.invariant.keeps
      (keeps-noted c.args.wire c.converse.result _ _ _ c.converse.ensures.keeps c.converse.ensures.cause
      c.note_not_ready.ensures.keeps);
  unread = c.note_not_ready.ensures.keeps.moment ∙ (c.converse.ensures.keeps.moment ∙ c.loop-ending.invariant.unread);
  reports = c.note_not_ready.ensures.reports ∙ c.loop-ending.invariant.reports;
}

pub returns-in_err-ending-clause-keeps : goal.returns-in_err-ending-clause-keeps
returns-in_err-ending-clause-keeps g c =
    keeps-then (part.Visit c.args.wire) _ _ _ c.loop-ending.invariant.keeps
    (keeps-conversed c.args.wire c.converse.result _ _ c.converse.ensures.keeps c.converse.ensures.cause)

pub returns-in-Over-clause-keeps : goal.returns-in-Over-clause-keeps
returns-in-Over-clause-keeps g c =
    keeps-then (part.Visit c.args.wire) _ _ _ c.loop-ending.invariant.keeps
    (keeps-conversed c.args.wire c.converse.result _ _ c.converse.ensures.keeps c.converse.ensures.cause)

pub returns-in-Over-clause-counted : goal.returns-in-Over-clause-counted
returns-in-Over-clause-counted g c =
    ending-within c.args.wire c.in-Over.ending _ _ _ _ (rises-visit c.args.wire _ _ c.loop-ending.invariant.keeps)
    (rises-same c.args.wire _)
    (over-counted c.args.wire c.in-Over.ending _ _ (rw c.in-Over.is at c.in_ok-ending.ensures.cause))

pub returns-in_err-note_not_ready-in-Paused-clause-keeps : goal.returns-in_err-note_not_ready-in-Paused-clause-keeps
returns-in_err-note_not_ready-in-Paused-clause-keeps g c =
    keeps-then (part.Visit c.args.wire) _ _ _ c.loop-ending.invariant.keeps
    (keeps-noted c.args.wire c.converse.result _ _ _ c.converse.ensures.keeps c.converse.ensures.cause
    c.note_not_ready.ensures.keeps)

pub returns-then-not-branch-clause-keeps : goal.returns-then-not-branch-clause-keeps
returns-then-not-branch-clause-keeps g c =
    keeps-then (part.Visit c.args.wire) _ _ _ c.loop-ending.invariant.keeps
    (keeps-noted c.args.wire c.converse.result _ _ _ c.converse.ensures.keeps c.converse.ensures.cause
    c.note_not_ready.ensures.keeps)

pub returns-in_err-note_not_ready-in-Paused-clause-failed :
    goal.returns-in_err-note_not_ready-in-Paused-clause-failed
returns-in_err-note_not_ready-in-Paused-clause-failed g c =
    on-poller _ c.from_residual-in_err-note_not_ready-in-Paused.result
    c.in_err-note_not_ready-in-Paused.field-0.0 c.from_residual-in_err-note_not_ready-in-Paused.ensures.1
    (if-poller-by _ _ c.in_err-note_not_ready-in-Paused.field-0.0
    (turns-fail c.args.wire c.args.key c.in-Paused.dir _ _ _ _ c.args.reactor.now.core c.loop-ending.reactor.core
    c.args.client.now c.loop-ending.client c.converse.new.client c.loop-ending.invariant.turning
    (rw c.in-Paused.is at c.in_ok-ending.ensures.conversed)) c.in_err-note_not_ready-in-Paused.ensures.failed)
