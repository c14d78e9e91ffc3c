use Rattle.std.proofs.Common.{reverse, ◌≡◌, ◌∙◌, ◌++◌, ◌∷◌, ap, sym}
use Rattle.std.proofs.lemmas.Result.{err_from_is_err_and}
use Rattle.react_steps.specs.History.{kinds_of}
use Rattle.react_steps.proofs.Histories.{refused-next}
use Rattle.react_steps.proofs.Laws.{ready-run}
use Rattle.react_steps.proofs.Sharpness.{accounted-run}
use Rattle.react_steps.proofs.world.run_steps.Goals as goal

pub returns-clause-ready : goal.returns-clause-ready
returns-clause-ready c = ready-run (reverse c.loop-kind.world.history) c.loop-kind.world.world c.loop-kind.invariant.run

pub returns-clause-accounted : goal.returns-clause-accounted
returns-clause-accounted c = accounted-run (reverse c.loop-kind.world.history) c.loop-kind.world.world c.loop-kind.invariant.run

pub returns-in_err-world-clause-disabled : goal.returns-in_err-world-clause-disabled
returns-in_err-world-clause-disabled c =
    let was = c.loop-kind.invariant in
    let rest = c.next.new.self.rest.items in
    let p = err_from_is_err_and c.from_residual.result c.from_residual.ensures.1 in
    let all : kinds_of c.loop-kind.world.history ++ c.in-Some.kind ∷ rest ≡ c.args.kinds.items =
    ap (λ ks. ks ++ c.in-Some.kind ∷ rest) was.kinds ∙ ap (λ ks. c.loop-kind.yielded ++ ks) (sym c.in-Some.ensures.steps.0) ∙ was.rest in
    rw (p.1, p.2) (refused-next c.args.kinds.items rest c.loop-kind.world c.in-Some.kind c.in_err-world.field-0.0 all c.in_err-world.ensures.disabled)
