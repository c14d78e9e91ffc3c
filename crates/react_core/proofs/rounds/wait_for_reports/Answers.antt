use Rattle.std.proofs.Common.{◌∙◌, ap, sym, refl, take, false, true, Err, arith}
use Rattle.std.proofs.lemmas.Result.{err_from_is_err_and}
use Rattle.react_core.specs.declared.outside.WaitAnswer.TheVariants as wait_answer
use Rattle.react_core.proofs.Pauses.{pause-refused, pause-once, pause-twice, pause-unread, quiet_none, quiet_some}
use Rattle.react_core.proofs.rounds.wait_for_reports.Goals.{else-count-eq0-via-then-count-eq0+else-may_pass, else-count-eq0-via-else-count-eq0}
use Rattle.react_core.proofs.rounds.wait_for_reports.Goals as goal

pub returns-in_err-wait-clause-pause : goal.returns-in_err-wait-clause-pause
returns-in_err-wait-clause-pause g c =
    let p = err_from_is_err_and c.from_residual.result c.from_residual.ensures.1 in
    pause-refused c.args.timeout _ _ _ _ c.in_err-wait.ensures.keeps.moment c.in_err-wait.field-0.0 c.from_residual.result c.wait.new.reports c.wait.new.reports
    c.in_err-wait.ensures.told (p.1 ∙ ap Err p.2)

pub returns-in-Interrupted-clause-pause : goal.returns-in-Interrupted-clause-pause
returns-in-Interrupted-clause-pause g c =
    pause-once c.args.timeout _ _ _ _ c.in_ok-wait.ensures.keeps.moment wait_answer.Interrupted _ _ (rw c.in-Interrupted.is at c.in_ok-wait.ensures.told) refl refl refl

pub returns-in_err-again-clause-pause : goal.returns-in_err-again-clause-pause
returns-in_err-again-clause-pause g c =
    let p = err_from_is_err_and c.from_residual-in_err-again.result c.from_residual-in_err-again.ensures.1 in
    pause-unread c.args.timeout _ _ _ _ c.in_ok-wait.ensures.keeps.moment c.in-Reported.count _ _ c.wait.new.reports c.from_residual-in_err-again.result
    (rw c.in-Reported.is at c.in_ok-wait.ensures.told) c.in_err-again.ensures.told c.in_err-again.ensures.unread c.if-count-eq0.true
    (sym c.may_pass.ensures ∙ c.if-may_pass.true) (p.1 ∙ ap Err p.2)

pub returns-then-may_pass-clause-pause : goal.returns-then-may_pass-clause-pause
returns-then-may_pass-clause-pause g c =
    pause-twice c.args.timeout _ _ _ _ c.in_ok-wait.ensures.keeps.moment (wait_answer.Reported (take c.in-Reported.count c.wait.new.reports)) _ c.in_ok-again.again _ _ _
    (rw c.in-Reported.is at c.in_ok-wait.ensures.told) c.in_ok-again.ensures.told c.in_ok-again.ensures.forward c.in_ok-again.ensures.reading
    (quiet_none c.args.timeout _ _ true c.if-count-eq0.true (sym c.may_pass.ensures ∙ c.if-may_pass.true)) refl refl

pub returns-clause-pause : goal.returns-clause-pause
returns-clause-pause g c =
    pause-once c.args.timeout _ _ _ _ c.in_ok-wait.ensures.keeps.moment (wait_answer.Reported (take c.in-Reported.count c.wait.new.reports)) _ _
    (rw c.in-Reported.is at c.in_ok-wait.ensures.told)
    (elim c.else-count-eq0.branch [
      | else-count-eq0-via-then-count-eq0+else-may_pass w ↦ quiet_none c.args.timeout _ _ false w.if-count-eq0.true (sym w.may_pass.ensures ∙ w.if-may_pass.false)
      | else-count-eq0-via-else-count-eq0 w ↦ quiet_some c.args.timeout c.in-Reported.count c.wait.new.reports w.if-count-eq0.false
          (omega (arith, rw c.in-Reported.is at c.in_ok-wait.ensures.amount, c.wait.auto.reports))
    ]) refl refl
