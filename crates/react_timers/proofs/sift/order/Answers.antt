use Rattle.std.proofs.Common.{◌∙◌}
use Rattle.std.proofs.lemmas.List.Sorted.{IsPermutation-trans}
use Rattle.react_timers.proofs.sift.order.Goals as goal

pub loop-at-preserved : goal.loop-at-preserved
loop-at-preserved c = record {
  ordered = c.sink.ensures.ordered;
  moved = IsPermutation-trans _ _ _ c.loop-at.invariant.moved c.sink.ensures.moved;
  len = c.sink.ensures.len ∙ c.loop-at.invariant.len;
  capacity = c.sink.ensures.capacity ∙ c.loop-at.invariant.capacity;
}
