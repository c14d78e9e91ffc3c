use Rattle.std.proofs.Common.{◌∙◌, sym, ap, refl, Err}
use Rattle.std.proofs.lemmas.Result.{err_from_is_err_and}
use Rattle.react_core.specs.declared.reactor.Dir.TheVariants.{Write}
use Rattle.react_core.specs.Core.{ReactorState}
use Rattle.react_core.specs.Readiness.{is_ready}
use Rattle.react_core.specs.Steps.{then-steps}
use Rattle.react_async.specs.Polls.{writing}
use Rattle.react_async.proofs.Sources.{has-after, unready-after, stored-after}
use Rattle.react_async.proofs.Ways.{written-answers, ends-answered, ends-waiting, ends-refused, goes-once, goes-again}
use Rattle.react_async.proofs.Calls.{writing-called, asks-twice}
use Rattle.react_async.proofs.polled.poll_write.Goals as goal

pub returns-in-Some-clause-goes : goal.returns-in-Some-clause-goes
returns-in-Some-clause-goes g c =
    let a = writing c.args.key c.args.wire c.args.task c.args.bytes.now in
    goes-once g.W.Wakes.woke a _ _ _
    (ends-answered g.W.Wakes.woke a _ _ c.in-Some.first
    (written-answers _ c.in-Some.first c.in-Some.ensures.answered) c.in-Some.ensures.told refl refl)

pub returns-in_err-poll_ready-clause-goes : goal.returns-in_err-poll_ready-clause-goes
returns-in_err-poll_ready-clause-goes g c =
    let a = writing c.args.key c.args.wire c.args.task c.args.bytes.now in
    let p = err_from_is_err_and c.from_residual.result c.from_residual.ensures.1 in
    let refused = c.in_err-poll_ready.ensures in
    goes-once g.W.Wakes.woke a _ _ _
    (ends-refused g.W.Wakes.woke a _ _ _ c.from_residual.result c.in_err-poll_ready.field-0.0 (p.1 ∙ ap Err p.2)
    refused.refused c.in_default.ensures.told refused.told (ap (λ (s : ReactorState). s.core) refused.err.0) refused.err.1)

pub returns-in_err-poll_ready-clause-twice : goal.returns-in_err-poll_ready-clause-twice
returns-in_err-poll_ready-clause-twice g c =
    asks-twice g.W.Wakes.woke (writing c.args.key c.args.wire c.args.task c.args.bytes.now)
    (writing-called c.args.key c.args.wire c.args.task c.args.bytes.now) _ _ _ (returns-in_err-poll_ready-clause-goes g c)

pub write_or_wait-requires-clause-known : goal.write_or_wait-requires-clause-known
write_or_wait-requires-clause-known g c =
    has-after c.args.reactor.now.core c.poll_ready.new.self.core c.args.key Write c.args.task c.requires c.in_ok-poll_ready.ensures.step.core

pub write_or_wait-requires-clause-unready : goal.write_or_wait-requires-clause-unready
write_or_wait-requires-clause-unready g c =
    let step = c.in_ok-poll_ready.ensures.step in
    unready-after c.args.reactor.now.core c.poll_ready.new.self.core c.args.key Write c.args.task c.requires
    (sym c.in-Ready.is ∙ step.answered) step.core

pub returns-in-Ready-clause-goes : goal.returns-in-Ready-clause-goes
returns-in-Ready-clause-goes g c =
    let polled = c.in_ok-poll_ready.ensures in
    goes-again g.W.Wakes.woke (writing c.args.key c.args.wire c.args.task c.args.bytes.now)
    _
    (record { events = (g.O.Tells.outer c.poll_ready.new.registrar).events; core = c.poll_ready.new.self.core; wakes = c.poll_ready.new.wakes })
    _ (g.O.Tells.outer c.write_once.new.outside).events _
    (sym polled.ready ∙ ap is_ready c.in-Ready.is) c.in_default.ensures.told polled.told
    (rw c.in-Ready.is at polled.step) polled.woken c.write_or_wait.ensures.ends

pub returns-in-Ready-clause-twice : goal.returns-in-Ready-clause-twice
returns-in-Ready-clause-twice g c =
    asks-twice g.W.Wakes.woke (writing c.args.key c.args.wire c.args.task c.args.bytes.now)
    (writing-called c.args.key c.args.wire c.args.task c.args.bytes.now) _ _ _ (returns-in-Ready-clause-goes g c)

pub returns-in-Ready-clause-steps : goal.returns-in-Ready-clause-steps
returns-in-Ready-clause-steps g c = then-steps c.in_ok-poll_ready.ensures.steps c.write_or_wait.ensures.steps

pub returns-in-Pending-clause-goes : goal.returns-in-Pending-clause-goes
returns-in-Pending-clause-goes g c =
    let a = writing c.args.key c.args.wire c.args.task c.args.bytes.now in
    let polled = c.in_ok-poll_ready.ensures in
    goes-once g.W.Wakes.woke a _ _ _
    (ends-waiting g.W.Wakes.woke a _ _ _ c.in_ok-poll_ready.field-0 (sym polled.ready ∙ ap is_ready c.in-Pending.is) c.in-Pending.is
    c.in_default.ensures.told polled.told polled.step polled.woken)

pub returns-in-Pending-clause-twice : goal.returns-in-Pending-clause-twice
returns-in-Pending-clause-twice g c =
    asks-twice g.W.Wakes.woke (writing c.args.key c.args.wire c.args.task c.args.bytes.now)
    (writing-called c.args.key c.args.wire c.args.task c.args.bytes.now) _ _ _ (returns-in-Pending-clause-goes g c)

pub returns-in-Pending-clause-stored : goal.returns-in-Pending-clause-stored
returns-in-Pending-clause-stored g c =
    let polled = c.in_ok-poll_ready.ensures in
    stored-after c.args.reactor.now.core c.poll_ready.new.self.core c.args.key Write c.args.task c.requires
    (sym polled.ready ∙ ap is_ready c.in-Pending.is) polled.step.core
