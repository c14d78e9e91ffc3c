use Rattle.std.proofs.Common.{◌∙◌, ◌+◌, ap, sym, arith, length, take, false}
use Rattle.std.specs.Prelude.{map}
use Rattle.std.proofs.lemmas.List.{map-append, length-append}
use Rattle.react_timers.specs.declared.slot.Slot.{Slot}
use Rattle.react_timers.specs.Held.{entry_of}
use Rattle.react_timers.specs.Slots.{lives}
use Rattle.react_timers.proofs.Slots.{lives-more, lives-same, lives-front}
use Rattle.react_timers.proofs.entries.fill.Goals as goal
use Rattle.react_timers.proofs.entries.fill.Goals.{then-slot, else-slot}

abbrev none : Slot
none = record { timer = record { number = 0; when = 0; task = 0 }; is_live = false }

pub push_reserved-requires : goal.push_reserved-requires
push_reserved-requires c =
    let slots = c.args.slots.now in
    let i = c.loop-slot.slot-index in
    let more = ap length (lives-more slots i none c.loop-slot-test.true c.if-slot.true) ∙ length-append (lives (take i slots)) _ in
    let front = lives-front slots (i + 1) in
    let capacity = c.loop-slot.invariant.capacity in
    omega (arith, more, front, capacity, c.loop-slot.invariant.len, c.requires, c.clear.ensures.capacity)

pub loop-slot-preserved : goal.loop-slot-preserved
loop-slot-preserved c =
    let slots = c.args.slots.now in
    let i = c.loop-slot.slot-index in
    elim c.if-slot.branch [
      | then-slot w ↦
          let more = lives-more slots i none c.loop-slot-test.true w.if-slot.true in
          let count = ap length more ∙ length-append (lives (take i slots)) _ in
          rw w.items-is (record {
            items = w.push_reserved.ensures.items ∙ rw more (rw c.loop-slot.invariant.items (sym (map-append entry_of (lives (take i slots)) _)));
            len = omega (arith, count, c.loop-slot.invariant.len, w.push_reserved.ensures.len);
            capacity = w.push_reserved.ensures.capacity ∙ c.loop-slot.invariant.capacity;
          })
      | else-slot w ↦
          let same = lives-same slots i none c.loop-slot-test.true w.if-slot.false in
          rw w.items-is (record {
            items = c.loop-slot.invariant.items ∙ ap (map entry_of) (sym same);
            len = c.loop-slot.invariant.len ∙ ap length (sym same);
            capacity = c.loop-slot.invariant.capacity;
          })
    ]
