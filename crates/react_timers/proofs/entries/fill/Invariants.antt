use Rattle.std.proofs.Common.{◌≡◌, take, length, vec_len, vec_capacity}
use Rattle.std.specs.Prelude.{map}
use Rattle.react_timers.specs.Held.{entry_of}
use Rattle.react_timers.specs.Slots.{lives}
use Rattle.react_timers.proofs.entries.fill.Given as goal

abbrev pub invariant-loop-slot : goal.invariant-loop-slot
invariant-loop-slot l = record {
  items : l.items.items ≡ map entry_of (lives (take l.slot-index l.slots));
  len : vec_len l.items ≡ length (lives (take l.slot-index l.slots));
  capacity : vec_capacity l.items ≡ vec_capacity l.fn.items;
}
