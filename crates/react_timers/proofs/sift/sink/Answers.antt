use Rattle.std.proofs.Common.{◌≡◌, ◌<◌, length, vec_len, sym, ◌∙◌, arith}
use Rattle.std.proofs.lemmas.Grind.{common_steps}
use Rattle.std.proofs.lemmas.List.Sorted.{IsPermutation-trans, IsPermutation-swap}
use Rattle.react_timers.proofs.Sifts.{sink-step, reads}
use Rattle.react_timers.proofs.sift.sink.Goals as goal

pub loop-at-preserved : goal.loop-at-preserved
loop-at-preserved c =
    let before = c.loop-at.invariant in
    let xs = c.loop-at.items.items in
    let j = c.loop-at.at in
    let child = c.sooner_child-child.result in
    let is = rw c.deref.ensures.value at c.sooner_child-child.ensures.child in
    let best = rw c.deref.ensures.value at c.sooner_child-child.ensures.best in
    let j-lt : j < length xs = omega (arith, is) in
    let first = reads xs child j c.index.result.now c.index-in-loop-at.result.now is.1 j-lt c.index.ensures c.index-in-loop-at.ensures (sym c.if-not-is_sooner.ensures) in
    let within : vec_len c.loop-at.items ≡ length xs = grind (arith, common_steps) in
    let lt : child < vec_len c.loop-at.items = omega (arith, within, is.1) in
    let below =
    sink-step xs c.swap.new.self.items _ j child (vec_len c.loop-at.items) before.low is.0 lt c.swap.ensures.by_index first (λ k ch in'. best k ch (omega (arith, within, in'))) before.below in
    record {
      low = omega (arith, before.low, is.0);
      below = rw c.swap.ensures.len below;
      moved = IsPermutation-trans _ xs _ before.moved (IsPermutation-swap xs _ j child j-lt is.1 c.swap.ensures.items);
      len = c.swap.ensures.len ∙ before.len;
      capacity = c.swap.ensures.capacity ∙ before.capacity;
    }
