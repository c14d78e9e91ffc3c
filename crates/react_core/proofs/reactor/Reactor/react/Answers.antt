use Rattle.std.proofs.Common.{◌∙◌, ap, Err, length, vec_len, arith}
use Rattle.std.proofs.lemmas.Result.{err_from_is_err_and}
use Rattle.react_core.specs.declared.reactor.Begun.{Begun}
use Rattle.react_core.specs.declared.rounds.Came.{Came}
use Rattle.react_core.specs.Core.{ReactorState}
use Rattle.react_core.proofs.Courses.{UnlessExhausted-any, ran-unread, ran-read, RoundCounted-both, refused_alone}
use Rattle.react_core.specs.Steps.{then-steps}
use Rattle.react_core.specs.Timing.{wait_limit}
use Rattle.react_core.proofs.reactor.Reactor.react.Goals as goal

pub returns-in_err-first-clause-ran : goal.returns-in_err-first-clause-ran
returns-in_err-first-clause-ran g c =
    let p = err_from_is_err_and c.from_residual.result c.from_residual.ensures.1 in
    UnlessExhausted-any c.from_residual.result _
    (ran-unread g.W.Wakes.woke c.args.timeout _ _ _ _ _ _ _ c.from_residual.result c.in_err-first.ensures.told c.in_err-first.ensures.unread (p.1 ∙ ap Err p.2))

pub returns-clause-steps : goal.returns-clause-steps
returns-clause-steps g c = then-steps (rw (← c.self-2.view_is) at c.in_ok-begun.ensures.steps) (rw (← c.self-3.view_is) at c.finish_round-finished.ensures.steps)

pub returns-clause-ran : goal.returns-clause-ran
returns-clause-ran g c =
    let now = c.in_ok-first.ensures in
    let waited = c.wait_for_reports-waited.ensures in
    let finished = c.finish_round-finished.ensures in
    UnlessExhausted-any c.first_refusal.result _
    (ran-read g.W.Wakes.woke c.args.timeout _ _ _ _ _ _ _ _ _ c.in_ok-first.first c.args.self.now _ _ _ _ _ c.split_at.result.0.now c.came_of-came.result.again c.wait_for_reports-waited.result
    c.finish_round-finished.result c.first_refusal.result
    now.told now.forward now.reading (rw (← c.self-2.view_is, c.in_ok-begun.ensures.begun) at c.in_ok-begun.ensures.step) (rw (ap (λ (b : Begun). b.timeout) c.in_ok-begun.ensures.begun, ← c.came_of-came.ensures) at waited.pause)
    c.split_at.ensures.front
    (omega (
      arith,
      c.split_at.ensures.front_len,
      ap (λ (came : Came). came.count) c.came_of-came.ensures,
      waited.within,
      ap length c.as_mut_slice-buffer.ensures.value,
      ap vec_len c.replace-reports.ensures.value,
      ap (λ (s : ReactorState). s.events) c.self-2.view_is,
      ap (λ (s : ReactorState). s.events) c.in_ok-begun.ensures.core,
    ))
    finished.keeps.moment (rw (waited.keeps.ample, now.keeps.ample) at finished.tried) (rw (← c.self-3.view_is) at finished.step) finished.woken c.first_refusal.ensures)

pub returns-clause-cause : goal.returns-clause-cause
returns-clause-cause g c =
    RoundCounted-both c.wait_for_reports-waited.result c.finish_round-finished.result c.first_refusal.result _ _ _
    (rw c.in_ok-first.ensures.keeps.poller at c.wait_for_reports-waited.ensures.cause) c.finish_round-finished.ensures.cause
    (λ e is. refused_alone (wait_limit c.args.self.now.core c.in_ok-first.first c.args.timeout) _ _ _ _ _ _ _ _ c.split_at.result.0.now _ c.came_of-came.result.again c.wait_for_reports-waited.result c.finish_round-finished.result e _ is
    (rw (ap (λ (b : Begun). b.timeout) c.in_ok-begun.ensures.begun, ← c.came_of-came.ensures) at c.wait_for_reports-waited.ensures.pause)
    c.split_at.ensures.front c.finish_round-finished.ensures.tried)
    c.first_refusal.ensures
