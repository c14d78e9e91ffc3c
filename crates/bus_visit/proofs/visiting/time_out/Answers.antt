use Rattle.std.proofs.Common.{inl, true, refl, ap}
use Rattle.bus_visit.proofs.FailureLemmas.{on-poller, at-poller}
use Rattle.bus_visit.proofs.NotReadyNotes.{holds-source}
use Rattle.bus_visit.proofs.StayLemmas.{held-removal, held-removed, held-unremoved}
use Rattle.bus_visit.proofs.TurnLemmas.{on-err}
use Rattle.bus_visit.proofs.visiting.time_out.Goals as goal

pub remove_io-requires : goal.remove_io-requires
remove_io-requires g c = holds-source c.args.reactor.now.core c.args.sleeper.key c.args.wire c.requires.holds

pub returns-in_err-remove_io-clause-refused : goal.returns-in_err-remove_io-clause-refused
returns-in_err-remove_io-clause-refused g c =
    on-err c.from_residual.result
    (held-removal _ c.args.wire c.args.sleeper.key c.args.reactor.now.core c.remove_io.result _ _ c.requires.holds
    c.remove_io.ensures.memory c.remove_io.ensures.told)

pub returns-in_err-remove_io-clause-failed : goal.returns-in_err-remove_io-clause-failed
returns-in_err-remove_io-clause-failed g c =
    on-poller _ c.from_residual.result c.in_err-remove_io.field-0.0 c.from_residual.ensures.1
    (at-poller _ c.in_err-remove_io.field-0.0 (λ is.
    held-unremoved _ c.args.wire c.args.sleeper.key c.args.reactor.now.core _ _ c.requires.holds
    (rw is at c.in_err-remove_io.ensures.told)))

pub returns-in_err-ended-clause-refused : goal.returns-in_err-ended-clause-refused
returns-in_err-ended-clause-refused g c =
    on-err c.from_residual-in_err-ended.result
    (held-removal _ c.args.wire c.args.sleeper.key c.args.reactor.now.core c.remove_io.result _ _ c.requires.holds
    c.remove_io.ensures.memory c.remove_io.ensures.told)

pub returns-clause-told : goal.returns-clause-told
returns-clause-told g c =
    held-removed c.args.wire c.args.sleeper.key c.args.reactor.now.core c.in_ok-remove_io.field-0 _ _ c.requires.holds
    c.in_ok-remove_io.ensures.told
