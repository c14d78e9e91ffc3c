use Rattle.std.proofs.Common.{◌∙◌, sym, ap, refl}
use Rattle.std.specs.Prelude.{not}
use Rattle.react_core.specs.Ticks.{place_of}
use Rattle.react_core.proofs.Holding.{counts-gone_taken, counts-gone_waiting, tied-gone, held-entry, entries-gone, at_key-futures_in}
use Rattle.react_core.proofs.interest.Interest.cancel.Goals as goal

pub returns-in_default-clause-held : goal.returns-in_default-clause-held
returns-in_default-clause-held c = rw (← c.self.view_is, at_key-futures_in, ← c.try_remove.ensures.value, c.in_default.is) refl

pub returns-in_default-clause-direction : goal.returns-in_default-clause-direction
returns-in_default-clause-direction c = rw (← c.self.view_is, entries-gone c.self.inside.futures c.try_remove.new.self c.args.place c.try_remove.ensures.updates) refl

pub overflow_sub-self : goal.overflow_sub-self
overflow_sub-self c =
    (counts-gone_taken c.self.inside.futures c.try_remove.new.self c.args.place c.self.inside.taken c.in-Some.waiting c.self.invariant.taken (sym c.try_remove.ensures.value ∙ c.in-Some.is)
    c.try_remove.ensures.updates (c.is_none.ensures ∙ ap not c.if-is_none.true)).0

pub invariant_of-self-then-is_none : goal.invariant_of-self-then-is_none
invariant_of-self-then-is_none c = record {
  polled = c.self.invariant.polled;
  futures = tied-gone c.self.inside.tick c.self.inside.futures c.try_remove.new.self c.args.place c.self.invariant.futures c.try_remove.ensures.updates;
  taken = (counts-gone_taken c.self.inside.futures c.try_remove.new.self c.args.place c.self.inside.taken c.in-Some.waiting c.self.invariant.taken (sym c.try_remove.ensures.value ∙ c.in-Some.is)
      c.try_remove.ensures.updates (c.is_none.ensures ∙ ap not c.if-is_none.true)).1;
}

pub invariant_of-self-else-is_none : goal.invariant_of-self-else-is_none
invariant_of-self-else-is_none c = record {
  polled = c.self.invariant.polled;
  futures = tied-gone c.self.inside.tick c.self.inside.futures c.try_remove.new.self c.args.place c.self.invariant.futures c.try_remove.ensures.updates;
  taken = counts-gone_waiting c.self.inside.futures c.try_remove.new.self c.args.place c.self.inside.taken c.in-Some.waiting c.self.invariant.taken (sym c.try_remove.ensures.value ∙ c.in-Some.is)
      c.try_remove.ensures.updates (c.is_none.ensures ∙ ap not c.if-is_none.false);
}

pub returns-then-is_none-clause-held : goal.returns-then-is_none-clause-held
returns-then-is_none-clause-held c = rw (← c.self.view_is, held-entry c.self.inside.futures c.args.place c.in-Some.waiting (sym c.try_remove.ensures.value ∙ c.in-Some.is)) refl

pub returns-then-is_none-clause-direction : goal.returns-then-is_none-clause-direction
returns-then-is_none-clause-direction c = rw (← c.self.view_is, entries-gone c.self.inside.futures c.try_remove.new.self c.args.place c.try_remove.ensures.updates) refl

pub returns-else-is_none-clause-held : goal.returns-else-is_none-clause-held
returns-else-is_none-clause-held c = rw (← c.self.view_is, held-entry c.self.inside.futures c.args.place c.in-Some.waiting (sym c.try_remove.ensures.value ∙ c.in-Some.is)) refl

pub returns-else-is_none-clause-direction : goal.returns-else-is_none-clause-direction
returns-else-is_none-clause-direction c = rw (← c.self.view_is, entries-gone c.self.inside.futures c.try_remove.new.self c.args.place c.try_remove.ensures.updates) refl

pub returns-in_default-clause-gone : goal.returns-in_default-clause-gone
returns-in_default-clause-gone c = at_key-futures_in c.try_remove.new.self c.args.place ∙ ap place_of c.try_remove.ensures.updates.changed

pub returns-then-is_none-clause-gone : goal.returns-then-is_none-clause-gone
returns-then-is_none-clause-gone c = at_key-futures_in c.try_remove.new.self c.args.place ∙ ap place_of c.try_remove.ensures.updates.changed

pub returns-else-is_none-clause-gone : goal.returns-else-is_none-clause-gone
returns-else-is_none-clause-gone c = at_key-futures_in c.try_remove.new.self c.args.place ∙ ap place_of c.try_remove.ensures.updates.changed
