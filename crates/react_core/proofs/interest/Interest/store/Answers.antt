use Rattle.std.proofs.Common.{◌∙◌, sym, ap, is_some, refl}
use Rattle.std.specs.Prelude.{not}
use Rattle.std.specs.Option.{option_copied_mut}
use Rattle.react_core.specs.Places.{Direction}
use Rattle.react_core.specs.Keyed.{at_key}
use Rattle.react_core.specs.Ticks.{place_of}
use Rattle.react_core.proofs.Holding.{at_key-futures_in, counts-stored_taken, counts-stored_waiting, tied-stored, held-entry, entries-stored}
use Rattle.react_core.proofs.interest.Interest.store.Goals as goal

pub unreachable-requires : goal.unreachable-requires
unreachable-requires c =
    let none = at_key-futures_in c.self.inside.futures c.args.place ∙ ap place_of (sym c.get_mut.follows ∙ ap option_copied_mut c.in_default.is) in
    let present = ap (λ (d : Direction). is_some (at_key d.futures c.args.place)) c.self.view_is ∙ c.requires in
    let absent = ap is_some none in cc

pub overflow_sub-self : goal.overflow_sub-self
overflow_sub-self c =
    (counts-stored_taken c.self.inside.futures c.args.place c.self.inside.taken c.args.task c.in-Some.waiting.now c.self.invariant.taken
    (sym c.get_mut.follows ∙ ap option_copied_mut c.in-Some.is) (c.is_none.ensures ∙ ap not c.if-is_none.true)).0

pub invariant_of-self : goal.invariant_of-self
invariant_of-self c =
    let found = sym c.get_mut.follows ∙ ap option_copied_mut c.in-Some.is in
    record {
      polled = c.self.invariant.polled;
      futures = tied-stored c.self.inside.tick c.self.inside.futures c.args.place c.args.task c.in-Some.waiting.now c.self.invariant.futures found;
      taken = (counts-stored_taken c.self.inside.futures c.args.place c.self.inside.taken c.args.task c.in-Some.waiting.now c.self.invariant.taken found (c.is_none.ensures
          ∙ ap not c.if-is_none.true)).1;
    }

pub invariant_of-self-else-is_none : goal.invariant_of-self-else-is_none
invariant_of-self-else-is_none c =
    let found = sym c.get_mut.follows ∙ ap option_copied_mut c.in-Some.is in
    record {
      polled = c.self.invariant.polled;
      futures = tied-stored c.self.inside.tick c.self.inside.futures c.args.place c.args.task c.in-Some.waiting.now c.self.invariant.futures found;
      taken = counts-stored_waiting c.self.inside.futures c.args.place c.self.inside.taken c.args.task c.in-Some.waiting.now c.self.invariant.taken found (c.is_none.ensures
          ∙ ap not c.if-is_none.false);
    }

pub returns-then-is_none : goal.returns-then-is_none
returns-then-is_none c ticker =
    let found = sym c.get_mut.follows ∙ ap option_copied_mut c.in-Some.is in
    rw (← c.self.view_is, held-entry c.self.inside.futures c.args.place c.in-Some.waiting.now found, entries-stored c.self.inside.futures c.args.place _ (ap is_some found)) refl

pub returns-else-is_none : goal.returns-else-is_none
returns-else-is_none c ticker =
    let found = sym c.get_mut.follows ∙ ap option_copied_mut c.in-Some.is in
    rw (← c.self.view_is, held-entry c.self.inside.futures c.args.place c.in-Some.waiting.now found, entries-stored c.self.inside.futures c.args.place _ (ap is_some found)) refl
