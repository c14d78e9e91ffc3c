use Rattle.std.proofs.Common.{◌∙◌, ap, refl, Err}
use Rattle.std.proofs.lemmas.Result.{err_from_is_err_and}
use Rattle.react_core.specs.Core.{ReactorState}
use Rattle.react_core.specs.declared.reactor.Dir.TheVariants.{Write}
use Rattle.react_async.specs.Polls.{writing}
use Rattle.react_async.proofs.Sources.{stored-after}
use Rattle.react_async.proofs.Ways.{written-answers, ends-answered, ends-refused}
use Rattle.react_async.proofs.polled.write_or_wait.Goals as goal

pub returns-in-Some-clause-ends : goal.returns-in-Some-clause-ends
returns-in-Some-clause-ends g c =
    ends-answered g.W.Wakes.woke (writing c.args.key c.args.wire c.args.task c.args.bytes.now) _ _ c.in-Some.second
    (written-answers _ c.in-Some.second c.in-Some.ensures.answered) c.in-Some.ensures.told refl refl

pub returns-in_err-poll_ready-clause-ends : goal.returns-in_err-poll_ready-clause-ends
returns-in_err-poll_ready-clause-ends g c =
    let p = err_from_is_err_and c.from_residual.result c.from_residual.ensures.1 in
    let refused = c.in_err-poll_ready.ensures in
    ends-refused g.W.Wakes.woke (writing c.args.key c.args.wire c.args.task c.args.bytes.now) _ _ _ c.from_residual.result c.in_err-poll_ready.field-0.0
    (p.1 ∙ ap Err p.2) refused.refused c.in_default.ensures.told refused.told (ap (λ (s : ReactorState). s.core) refused.err.0) refused.err.1

pub returns-clause-stored : goal.returns-clause-stored
returns-clause-stored g c =
    stored-after c.args.reactor.now.core c.poll_ready.new.self.core c.args.key Write c.args.task c.requires.known c.requires.unready c.in_ok-poll_ready.ensures.step.core
