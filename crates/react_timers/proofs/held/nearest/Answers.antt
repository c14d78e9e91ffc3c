use Rattle.std.proofs.Common.{◌≡◌, true, false, Some, None, is_some, sym, ◌∙◌, arith}
use Rattle.std.proofs.lemmas.Grind.{common_steps}
use Rattle.react_timers.specs.Live.{task_at}
use Rattle.react_timers.proofs.Covers.{is_nearest, nearest_moment-is, stale-popped, covered-none}
use Rattle.react_timers.proofs.held.nearest.Goals as goal

pub returns-then-is_some-clause-nearest : goal.returns-then-is_some-clause-nearest
returns-then-is_some-clause-nearest c =
    let e = c.in-Some.entry in
    let is : is_some (task_at e.when e.number c.args.live.now.items) ≡ true = grind (arith, common_steps) in
    is_nearest e _ _ c.in-Some.ensures.1 c.loop-entry.invariant.held.covered is

pub returns-then-is_some-clause-moment : goal.returns-then-is_some-clause-moment
returns-then-is_some-clause-moment c =
    let e = c.in-Some.entry in
    let is : is_some (task_at e.when e.number c.args.live.now.items) ≡ true = grind (arith, common_steps) in
    nearest_moment-is (Some e.when) _ (is_nearest e _ _ c.in-Some.ensures.1 c.loop-entry.invariant.held.covered is)

pub loop-entry-smaller : goal.loop-entry-smaller
loop-entry-smaller c =
    let e = c.in-Some.entry in
    let stale : is_some (task_at e.when e.number c.args.live.now.items) ≡ false = grind (arith, common_steps) in
    let left = stale-popped c.pop.result _ _ e _ c.in-Some.ensures.0 c.in-Some.ensures.1 c.pop.ensures.popped stale c.loop-entry.invariant.held in
    omega (arith, left.1)

pub loop-entry-preserved : goal.loop-entry-preserved
loop-entry-preserved c =
    let e = c.in-Some.entry in
    let stale : is_some (task_at e.when e.number c.args.live.now.items) ≡ false = grind (arith, common_steps) in
    let left = stale-popped c.pop.result _ _ e _ c.in-Some.ensures.0 c.in-Some.ensures.1 c.pop.ensures.popped stale c.loop-entry.invariant.held in
    record {
      held = left.0;
      fewer = omega (arith, left.1, c.loop-entry.invariant.fewer);
      places = c.loop-entry.invariant.places ∙ sym c.pop.ensures.places;
    }

pub returns-clause-nearest : goal.returns-clause-nearest
returns-clause-nearest c = covered-none _ _ c.in_default.ensures c.loop-entry.invariant.held.covered

pub returns-clause-moment : goal.returns-clause-moment
returns-clause-moment c =
    nearest_moment-is None _ (covered-none _ _ c.in_default.ensures c.loop-entry.invariant.held.covered)
