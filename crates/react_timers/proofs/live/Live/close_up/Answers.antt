use Rattle.std.proofs.Common.{◌≡◌, rules, sym, ◌∙◌, ap, arith, length}
use Rattle.std.specs.Prelude.{filter}
use Rattle.std.proofs.lemmas.List.Elements.{filter_from_retain}
use Rattle.react_timers.specs.declared.slot.Slot.{Slot}
use Rattle.react_timers.specs.Slots.{lives, LiveTable}
use Rattle.react_timers.proofs.Slots.{fewer-lives, lives-closed, rises-closed}
use Rattle.react_timers.proofs.live.Live.close_up.Goals as goal

pub overflow_sub-len : goal.overflow_sub-len
overflow_sub-len c =
    let few = fewer-lives c.self.inside.slots.items in omega (arith, few, c.self.invariant.count, c.len.ensures)

closed : (c : goal.After-retain) → c.retain.new.self.items ≡ filter (λ (s : Slot). s.is_live) c.self.inside.slots.items
closed c =
    filter_from_retain _ (λ (s : Slot). s.is_live) (λ p x b q says. search rules) _ _ _ c.retain.ensures.filtered

pub invariant_of-self : goal.invariant_of-self
invariant_of-self c =
    rw (closed c) (record {
      rises = rises-closed c.self.inside.slots.items c.self.invariant.rises;
      count = c.self.invariant.count ∙ ap length (sym (lives-closed c.self.inside.slots.items));
    })

pub returns-then-self-len-clause-items : goal.returns-then-self-len-clause-items
returns-then-self-len-clause-items c =
    ap lives (closed c) ∙ lives-closed c.self.inside.slots.items ∙ ap (λ (l : LiveTable). l.items) c.self.view_is
