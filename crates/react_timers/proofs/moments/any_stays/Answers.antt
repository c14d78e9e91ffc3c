use Rattle.std.proofs.Common.{false, sym, ◌∙◌, ap}
use Rattle.std.specs.List.{list_any}
use Rattle.react_timers.specs.declared.slot.Slot.{Slot}
use Rattle.react_timers.specs.declared.timer.LiveTimer.{LiveTimer}
use Rattle.react_timers.specs.Moments.{stays}
use Rattle.react_timers.proofs.Slots.{any-at, none-more, none-same}
use Rattle.react_timers.proofs.moments.any_stays.Goals as goal
use Rattle.react_timers.proofs.moments.any_stays.Goals.{else-slot-via-then-slot+else-stays, else-slot-via-else-slot}

abbrev none : Slot
none = record { timer = record { number = 0; when = 0; task = 0 }; is_live = false }

pub returns-then-stays : goal.returns-then-stays
returns-then-stays c =
    let slots = c.slots-slot-items.result.now in
    let found = any-at (λ (t : LiveTimer). stays c.args.live.now.items c.args.queue.now t.number) slots c.loop-slot.slot-index none
    c.loop-slot-test.true c.if-slot.true (sym c.stays.ensures ∙ c.if-stays.true) in
    sym (sym (ap (list_any (λ (t : LiveTimer). stays c.args.live.now.items c.args.queue.now t.number)) c.slots-slot-items.ensures) ∙ found)

pub loop-slot-preserved : goal.loop-slot-preserved
loop-slot-preserved c =
    let slots = c.slots-slot-items.result.now in
    let i = c.loop-slot.slot-index in
    elim c.else-slot.branch [
      | else-slot-via-then-slot+else-stays w ↦
          none-more (λ (t : LiveTimer). stays c.args.live.now.items c.args.queue.now t.number) slots i none
          c.loop-slot-test.true w.if-slot.true (sym w.stays.ensures ∙ w.if-stays.false) c.loop-slot.invariant
      | else-slot-via-else-slot w ↦
          none-same (λ (t : LiveTimer). stays c.args.live.now.items c.args.queue.now t.number) slots i none
          c.loop-slot-test.true w.if-slot.false c.loop-slot.invariant
    ]
