use Rattle.std.proofs.Common.{◌≡◌, ◌-◌, ◌∙◌, ap, sym, subst, arith}
use Rattle.react_timers.specs.declared.timer.TimerOp.{TimerOp}
use Rattle.react_timers.specs.declared.timer.TimerOp.TheVariants.{Insert}
use Rattle.react_core.specs.Core.{Core, ReactorState}
use Rattle.react_core.specs.Steps.{CoreSteps, then-steps}
use Rattle.react_core.specs.Timing.{with_place, drawn}
use Rattle.react_core.proofs.TimerSteps.{place-steps, queued-steps, undrawn}
use Rattle.react_core.proofs.reactor.Reactor.insert_timer.Goals as goal

pub returns-in-Ok-clause-steps : goal.returns-in-Ok-clause-steps
returns-in-Ok-clause-steps g c =
    let op : TimerOp = Insert c.args.when c.in_ok-number.number c.args.task in
    rw c.in-Ok.ensures.core (then-steps c.in_ok-number.ensures.steps (queued-steps c.draw_timer.new.self.core op))

pub returns-in-Err-Failed-clause-steps : goal.returns-in-Err-Failed-clause-steps
returns-in-Err-Failed-clause-steps g c =
    rw c.in-Err-Failed.ensures.err (then-steps c.in_ok-number.ensures.steps (place-steps c.draw_timer.new.self.core))

pub returns-in-Err-OutOfMemory-clause-steps : goal.returns-in-Err-OutOfMemory-clause-steps
returns-in-Err-OutOfMemory-clause-steps g c =
    let old = c.args.self.now.core in
    let number : c.in_ok-number.number - 1 ≡ old.made = omega (arith, c.in_ok-number.ensures.number) in
    let again : Core → Core = λ core. record core { made = c.in_ok-number.number - 1 } in
    let now = ap (λ (s : ReactorState). again s.core) (c.self.view_is ∙ c.in-Err-OutOfMemory.ensures.err)
    ∙ ap (λ (s : ReactorState). again (with_place s.core)) c.in_ok-number.ensures.core
    ∙ ap (λ n. record (with_place (drawn old)) { made = n }) number ∙ undrawn old in
    subst (λ core. CoreSteps old core) (sym now) (place-steps old)
