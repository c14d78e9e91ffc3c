use Rattle.std.proofs.Common.{◌≤◌, ◌+◌, length, arith}
use Rattle.bus_peers.proofs.ClosingLemmas.{none-left, ends-none, ends-next, ends-kept, ends-within, ends-all}
use Rattle.bus_peers.proofs.closing.endeds_in.Goals as goal

pub loop-slot-init : goal.loop-slot-init
loop-slot-init c =
    ends-none c.args.slots.items c.into_iter-slot-iterator.result.rest.items c.in_ok-endeds.endeds.items
    c.into_iter-slot-iterator.ensures.into_iter_gives.0 c.in_ok-endeds.ensures.items c.requires.kept

pub ended_in-requires : goal.ended_in-requires
ended_in-requires c = record {
  kept = ends-kept c.args.slots.items c.loop-slot.slot-iterator.rest.items c.next.new.self.rest.items c.in-Some.slot
      c.loop-slot.endeds.items c.loop-slot.wire c.in-Some.ensures.steps.0 c.loop-slot.invariant;
}

pub overflow_add-wire : goal.overflow_add-wire
overflow_add-wire c =
    let within : c.loop-slot.wire + 1 ≤ length c.args.slots.items =
    ends-within c.args.slots.items c.loop-slot.slot-iterator.rest.items c.next.new.self.rest.items c.in-Some.slot
    c.loop-slot.endeds.items c.loop-slot.wire
    c.in-Some.ensures.steps.0 c.loop-slot.invariant in
    omega (arith, within, c.requires.few)

pub loop-slot-preserved : goal.loop-slot-preserved
loop-slot-preserved c =
    ends-next c.args.slots.items c.loop-slot.slot-iterator.rest.items c.next.new.self.rest.items c.in-Some.slot
    c.loop-slot.endeds.items c.push.new.self.items c.in_ok-ended_in.field-0 c.loop-slot.wire
    c.in-Some.ensures.steps.0 c.in_ok-push.ensures.items c.in_ok-ended_in.ensures.ended c.loop-slot.invariant

pub returns-clause-ended : goal.returns-clause-ended
returns-clause-ended c = ends-all c.args.slots.items c.loop-slot.slot-iterator.rest.items c.loop-slot.endeds.items c.loop-slot.wire
    (none-left c.loop-slot.slot-iterator.rest.items c.loop-slot.slot-iterator.rest.len c.loop-slot.slot-iterator.rest.ok.0 c.in-None.ensures.steps.0) c.loop-slot.invariant
