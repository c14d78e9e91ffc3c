use Rattle.std.proofs.Common.{◌≡◌, ◌++◌, ◌∷◌, [], Some, None, List, ap, sym, ◌∙◌, arith, append_assoc, append-nil}
use Rattle.std.proofs.lemmas.Grind.{common_steps}
use Rattle.std.proofs.lemmas.List.Sorted.{length_permutation}
use Rattle.react_timers.specs.declared.timer.LiveTimer.{LiveTimer}
use Rattle.react_timers.specs.Live.{task_at, without, tasks}
use Rattle.react_timers.proofs.Dues.{due-first, due-none, later-first}
use Rattle.react_timers.proofs.Covers.{held-pop, none-before, none-due, nowhere}
use Rattle.react_timers.proofs.held.take_due.Goals as goal

pub loop-entry-smaller-in-Some-take_out : goal.loop-entry-smaller-in-Some-take_out
loop-entry-smaller-in-Some-take_out c = let long = length_permutation _ _ c.in-Some.ensures.popped.1.0 in omega (arith, long)

pub loop-entry-smaller : goal.loop-entry-smaller
loop-entry-smaller c = let long = length_permutation _ _ c.in-Some.ensures.popped.1.0 in omega (arith, long)

pub loop-entry-preserved-in-Some-take_out : goal.loop-entry-preserved-in-Some-take_out
loop-entry-preserved-in-Some-take_out c =
    let e = c.in-Some.entry in
    let before = c.loop-entry.invariant in
    let popped = c.in-Some.ensures.popped in
    let xs = c.loop-entry.live.items in
    let t : LiveTimer = record { number = e.number; when = e.when; task = c.in-Some-take_out.task } in
    let is : task_at e.when e.number xs ≡ Some t.task = sym c.take_out.ensures.task ∙ c.in-Some-take_out.is in
    let first = due-first c.args.now xs t before.held.rises is popped.0 (none-before t c.loop-entry.entries.items xs popped.1.1 before.held.covered) in
    let long = length_permutation _ _ popped.1.0 in
    record {
      hands = rw (c.push_reserved.ensures.items, c.take_out.ensures.items)
          (append_assoc c.loop-entry.hands.items (t.task ∷ []) _ ∙ ap (λ (ds : List LiveTimer). c.loop-entry.hands.items ++ tasks ds) (sym first) ∙ before.hands);
      live = rw c.take_out.ensures.items (later-first c.args.now e.when e.number xs popped.0 ∙ before.live);
      held = rw c.take_out.ensures.items (held-pop _ _ e xs before.held popped.1.0);
      fewer = omega (arith, long, before.fewer);
      len = grind (arith, common_steps);
      places = before.places ∙ sym c.pop_due.ensures.places;
      used = omega (arith, c.take_out.ensures.used, before.used);
      live_places = c.take_out.ensures.places ∙ before.live_places;
      hands_len = grind (arith, common_steps);
      hands_capacity = c.push_reserved.ensures.capacity ∙ before.hands_capacity;
    }

pub loop-entry-preserved : goal.loop-entry-preserved
loop-entry-preserved c =
    let e = c.in-Some.entry in
    let before = c.loop-entry.invariant in
    let popped = c.in-Some.ensures.popped in
    let xs = c.loop-entry.live.items in
    let none : c.take_out.result ≡ None = grind (arith, common_steps) in
    let same : without e.when e.number xs ≡ xs = nowhere e.when e.number xs (sym c.take_out.ensures.task ∙ none) in
    let live = c.take_out.ensures.items ∙ same in
    let long = length_permutation _ _ popped.1.0 in
    record {
      hands = rw live before.hands;
      live = rw live before.live;
      held = rw c.take_out.ensures.items (held-pop _ _ e xs before.held popped.1.0);
      fewer = omega (arith, long, before.fewer);
      len = grind (arith, common_steps);
      places = before.places ∙ sym c.pop_due.ensures.places;
      used = omega (arith, c.take_out.ensures.used, before.used);
      live_places = c.take_out.ensures.places ∙ before.live_places;
      hands_len = grind (arith, common_steps);
      hands_capacity = before.hands_capacity;
    }

pub returns-clause-hands : goal.returns-clause-hands
returns-clause-hands c =
    let before = c.loop-entry.invariant in
    let left = rw c.in_default.ensures.none at c.in_default.ensures.popped in
    let none = due-none c.args.now c.loop-entry.live.items (none-due c.args.now c.loop-entry.entries.items c.loop-entry.live.items left before.held.covered) in
    sym (append-nil c.loop-entry.hands.items) ∙ ap (λ (ds : List LiveTimer). c.loop-entry.hands.items ++ tasks ds) (sym none.0) ∙ before.hands

pub returns-clause-live : goal.returns-clause-live
returns-clause-live c =
    let before = c.loop-entry.invariant in
    let left = rw c.in_default.ensures.none at c.in_default.ensures.popped in
    let none = due-none c.args.now c.loop-entry.live.items (none-due c.args.now c.loop-entry.entries.items c.loop-entry.live.items left before.held.covered) in
    sym none.1 ∙ before.live
