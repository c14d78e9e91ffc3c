use Rattle.std.proofs.Common.{◌≡◌, true, is_ok, sym, ◌∙◌, ap, subst, arith, List, slice_set}
use Rattle.std.proofs.lemmas.List.{get_or_default}
use Rattle.react_timers.specs.declared.slot.Slot.{Slot}
use Rattle.react_timers.proofs.Slots.{Stores, stores-anew, stores-between, stored-there, taken_by}
use Rattle.react_timers.proofs.live.store.Goals as goal
use Rattle.react_timers.proofs.live.store.Goals.{then-at-len-via-then-at-len, then-at-len-via-else-at-len+then-index-timer}

between : (c : goal.After-insert) → Stores c.args.timer c.args.slots.now.items c.insert.new.self.items
between c =
    let ok : is_ok c.insert.result ≡ true = c.insert.ensures.succeeds c.requires.room in
    subst (λ (l : List Slot). Stores c.args.timer c.args.slots.now.items l) (sym (rw ok at c.insert.ensures.items))
    (stores-between c.args.timer c.args.slots.now.items c.place_of-at.result c.requires.rises
    (rw c.deref.ensures.value at c.place_of-at.ensures.place) (λ x lt e num. elim c.then-at-len.branch [
      | then-at-len-via-then-at-len w ↦ omega (arith, lt, w.if-at-len.true)
      | then-at-len-via-else-at-len+then-index-timer w ↦
          w.if-index-timer.true (ap (λ (s : Slot). s.timer.number)
          (w.index.ensures ∙ get_or_default _ _ _ x lt ∙ sym e) ∙ num)
    ]))

pub returns-then-at-len-clause-lives : goal.returns-then-at-len-clause-lives
returns-then-at-len-clause-lives c = (between c).added

pub returns-then-at-len-clause-rises : goal.returns-then-at-len-clause-rises
returns-then-at-len-clause-rises c = (between c).rises

pub returns-then-at-len-clause-more : goal.returns-then-at-len-clause-more
returns-then-at-len-clause-more c = λ _. (between c).more

pub returns-then-index-clause-lives : goal.returns-then-index-clause-lives
returns-then-index-clause-lives c =
    stored-there c.args.timer c.args.slots.now.items c.place_of-at.result c.index-2.result.now
    (rw c.deref.ensures.value at c.place_of-at.ensures.place) (omega arith) c.index-2.ensures
    (ap (λ (s : Slot). s.timer.number)
    (c.index-2.ensures ∙ get_or_default c.args.slots.now.items c.place_of-at.result _ c.index.result.now (omega arith) ∙ sym c.index.ensures) ∙ c.if-index-timer.false)
    c.if-index.true

anew : (c : goal.After-slots-1) →
    Stores c.args.timer c.args.slots.now.items (slice_set c.args.slots.now.items c.place_of-at.result (taken_by c.args.timer))
anew c =
    stores-anew c.args.timer c.args.slots.now.items c.place_of-at.result c.index-2.result.now c.requires.rises
    (rw c.deref.ensures.value at c.place_of-at.ensures.place) (omega arith) c.index-2.ensures
    (ap (λ (s : Slot). s.timer.number)
    (c.index-2.ensures ∙ get_or_default c.args.slots.now.items c.place_of-at.result _ c.index.result.now (omega arith) ∙ sym c.index.ensures) ∙ c.if-index-timer.false)
    c.if-index.false

pub returns-clause-lives : goal.returns-clause-lives
returns-clause-lives c = (anew c).added

pub returns-clause-rises : goal.returns-clause-rises
returns-clause-rises c = (anew c).rises

pub returns-clause-more : goal.returns-clause-more
returns-clause-more c = λ _. (anew c).more
