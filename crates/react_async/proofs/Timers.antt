-- What a call of a timer asks of the reactor, from the calls that it makes.
use Rattle.std.proofs.Common.{◌≡◌, ℕ, ◌++◌, List, [], ◌∷◌, Option, Some, None, Ok, refl, ap, ◌∙◌, true, false}
use Rattle.react_timers.specs.declared.timer.LiveTimer.{LiveTimer}
use Rattle.react_timers.specs.declared.timer.TimerOp.{TimerOp}
use Rattle.react_timers.specs.declared.timer.TimerOp.TheVariants.{Remove}
use Rattle.react_timers.specs.Live.{applied, applied_all, is_at, task_at, without}
use Rattle.react_core.specs.Core.{Core, ReactorState, timers_applied}
use Rattle.react_core.specs.Outer.{Outer}
use Rattle.react_core.specs.Steps.{CoreSteps, then-steps}
use Rattle.react_core.specs.Timing.{timer_removed, with_place}
use Rattle.react_async.specs.declared.timer.Kept.{Kept}
use Rattle.react_async.specs.declared.timer.Kept.TheVariants.{Nothing, Task, Registered}
use Rattle.react_async.specs.Timers.{TimerState, new_timer, unregistered, standing_at, To, Asked}

applied_all-then : (xs : List LiveTimer) (ops : List TimerOp) (op : TimerOp) →
    applied_all xs (ops ++ op ∷ []) ≡ applied (applied_all xs ops) op
applied_all-then xs [] op = refl
applied_all-then xs (first ∷ ops) op = applied_all-then (applied xs first) ops op

none-left : (when number : ℕ) (xs : List LiveTimer) → task_at when number (without when number xs) ≡ None
none-left when number [] = refl
none-left when number (x ∷ xs) =
    elim (is_at when number x) as (λ b. is_at when number x ≡ b →
    task_at when number (without when number (x ∷ xs)) ≡ None) [
      | true ↦ λ is. rw is (none-left when number xs)
      | false ↦ λ is. rw is (rw is (none-left when number xs))
    ] refl

removed-gone : (core : Core) (when number : ℕ) →
    task_at when number (timers_applied (timer_removed core when number)) ≡ None
removed-gone core when number =
    ap (task_at when number) (applied_all-then (with_place core).timers (with_place core).queue (Remove when number))
    ∙ none-left when number (timers_applied (with_place core))

unregistered-gone : (core : Core) (when : Option ℕ) (kept : Kept) →
    standing_at (unregistered core when kept) when kept ≡ None
unregistered-gone core None kept = refl
unregistered-gone core (Some when) Nothing = refl
unregistered-gone core (Some when) (Task task) = refl
unregistered-gone core (Some when) (Registered number task) = removed-gone core when number

-- a registration that was removed stands no more
pub cleared-gone : (old new : ReactorState) (when : Option ℕ) (kept : Kept) →
    new ≡ record old { core = unregistered old.core when kept } → standing_at new.core when kept ≡ None
cleared-gone old new when kept removed =
    ap (λ (s : ReactorState). standing_at s.core when kept) removed ∙ unregistered-gone old.core when kept

module _ {Origin : Type 0} where
  -- a registration, and then the removal of the timer's own
  pub asked-then : (when task : Option ℕ) (timer : TimerState) (before after : Outer Origin)
      (old mid new : ReactorState) →
      Asked (To when task) (new_timer None None) (Ok tt) before after old mid →
      new ≡ record mid { core = unregistered mid.core timer.when timer.kept } → CoreSteps mid.core new.core →
      Asked (To when task) timer (Ok tt) before after old new
  asked-then when task timer before after old mid new asked removed steps = record {
    done = removed
        ∙ ap (λ (s : ReactorState). record s { core = unregistered s.core timer.when timer.kept }) asked.done;
    gone = cleared-gone mid new timer.when timer.kept removed;
    refused = tt;
    numbered = asked.numbered;
    gained = asked.gained;
    cause = asked.cause;
    keeps = asked.keeps;
    reports = ap (λ (s : ReactorState). s.events) removed ∙ asked.reports;
    steps = then-steps asked.steps steps;
  }
