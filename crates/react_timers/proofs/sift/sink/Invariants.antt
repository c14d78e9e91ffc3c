use Rattle.std.proofs.Common.{◌≡◌, ◌≤◌, ◌-◌, vec_len, vec_capacity}
use Rattle.std.specs.Prelude.{IsPermutation}
use Rattle.react_timers.specs.Ordered.{IsOrderedBelow}
use Rattle.react_timers.proofs.sift.sink.Given as goal

abbrev pub invariant-loop-at : goal.invariant-loop-at
invariant-loop-at l = record {
  low : l.fn.at ≤ l.at;
  below : IsOrderedBelow l.items.items l.fn.at l.at (vec_len l.items);
  moved : IsPermutation l.fn.items.items l.items.items;
  len : vec_len l.items ≡ vec_len l.fn.items;
  capacity : vec_capacity l.items ≡ vec_capacity l.fn.items;
}

abbrev pub decreases-loop-at : goal.decreases-loop-at
decreases-loop-at l = vec_len l.items - l.at
