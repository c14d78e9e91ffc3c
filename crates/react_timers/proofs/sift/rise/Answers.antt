use Rattle.std.proofs.Common.{◌<◌, ◌-◌, ◌/◌, length, sym, ◌∙◌, arith}
use Rattle.std.proofs.lemmas.Grind.{common_steps}
use Rattle.std.proofs.lemmas.List.Sorted.{IsPermutation-trans, IsPermutation-swap}
use Rattle.react_timers.proofs.Sifts.{rise-step, reads}
use Rattle.react_timers.proofs.sift.rise.Goals as goal

pub loop-at-preserved : goal.loop-at-preserved
loop-at-preserved c =
    let before = c.loop-at.invariant in
    let xs = c.loop-at.items.items in
    let j = c.loop-at.at in
    let q = (j - 1) / 2 in
    let j-lt : j < length xs = grind (arith, common_steps) in
    let q-lt : q < length xs = omega (arith, j-lt) in
    let first = reads xs j q c.index.result.now c.index-in-loop-at.result.now j-lt q-lt c.index.ensures c.index-in-loop-at.ensures (sym c.if-not-is_sooner.ensures) in
    let above = rise-step xs c.swap.new.self.items j q _ (omega arith, omega arith) before.within c.swap.ensures.by_index first before.above in
    record {
      within = omega (arith, before.within, c.swap.ensures.len);
      above = rw c.swap.ensures.len above;
      moved = IsPermutation-trans _ xs _ before.moved (IsPermutation-swap xs _ j q j-lt q-lt c.swap.ensures.items);
      len = c.swap.ensures.len ∙ before.len;
      capacity = c.swap.ensures.capacity ∙ before.capacity;
    }
