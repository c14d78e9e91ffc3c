use Rattle.std.proofs.Common.{◌≡◌, vec_len, vec_capacity}
use Rattle.std.specs.Prelude.{IsPermutation}
use Rattle.react_timers.specs.Ordered.{IsOrdered}
use Rattle.react_timers.proofs.sift.order.Given as goal

abbrev pub invariant-loop-at : goal.invariant-loop-at
invariant-loop-at l = record {
  ordered : IsOrdered l.items.items l.at (vec_len l.items);
  moved : IsPermutation l.fn.items.items l.items.items;
  len : vec_len l.items ≡ vec_len l.fn.items;
  capacity : vec_capacity l.items ≡ vec_capacity l.fn.items;
}

abbrev pub decreases-loop-at : goal.decreases-loop-at
decreases-loop-at l = l.at
