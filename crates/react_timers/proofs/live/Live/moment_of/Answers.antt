use Rattle.std.proofs.Common.{sym, ◌∙◌, ap, arith}
use Rattle.std.specs.Prelude.{◌&&◌, ◌==◌}
use Rattle.react_timers.specs.declared.slot.Slot.{Slot}
use Rattle.react_timers.specs.Moments.{moment_of}
use Rattle.react_timers.specs.Slots.{LiveTable}
use Rattle.react_timers.proofs.Slots.{past-moment, other-moment, here-moment}
use Rattle.react_timers.proofs.live.Live.moment_of.Goals as goal

pub returns-then-at-len : goal.returns-then-at-len
returns-then-at-len c =
    let past = past-moment c.args.number c.self.inside.slots.items c.place_of-at.result
    (rw c.deref.ensures.value at c.place_of-at.ensures.place) (omega arith) in
    sym (sym (ap (λ (l : LiveTable). moment_of c.args.number l.items) c.self.view_is) ∙ past)

pub returns-then-has : goal.returns-then-has
returns-then-has c =
    let found = here-moment c.args.number c.self.inside.slots.items c.place_of-at.result c.index.result.now c.index-then-has.result.now
    (rw c.deref.ensures.value at c.place_of-at.ensures.place) (omega arith) c.index-then-has.ensures
    (ap (λ (s : Slot). s.is_live && (s.timer.number == c.args.number)) (sym c.index.ensures)
    ∙ (sym c.has.ensures ∙ c.if-has.true)) in
    sym (sym (ap (λ (l : LiveTable). moment_of c.args.number l.items) c.self.view_is) ∙ found)

pub returns-else-has : goal.returns-else-has
returns-else-has c =
    let other = other-moment c.args.number c.self.inside.slots.items c.place_of-at.result c.index.result.now c.self.invariant.rises
    (rw c.deref.ensures.value at c.place_of-at.ensures.place) (omega arith) (ap (λ (s : Slot). s.is_live && (s.timer.number == c.args.number)) (sym c.index.ensures)
    ∙ (sym c.has.ensures ∙ c.if-has.false)) in
    sym (sym (ap (λ (l : LiveTable). moment_of c.args.number l.items) c.self.view_is) ∙ other)
