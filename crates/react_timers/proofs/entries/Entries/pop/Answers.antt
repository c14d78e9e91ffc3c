use Rattle.std.proofs.Common.{◌≡◌, ◌<◌, length, vec_len, arith}
use Rattle.std.proofs.lemmas.Grind.{common_steps}
use Rattle.std.proofs.lemmas.List.Sorted.{IsPermutation-trans, IsPermutation-cons, IsPermutation-swap_remove}
use Rattle.react_timers.proofs.Sifts.{soonest-all}
use Rattle.react_timers.proofs.entries.Entries.pop.Goals as goal

pub returns-clause-popped : goal.returns-clause-popped
returns-clause-popped c =
    let xs = c.self.inside.items.items in
    let e = c.swap_remove-entry.result in
    let long : vec_len c.self.inside.items ≡ length xs = grind (arith, common_steps) in
    let some : 0 < length xs = grind (arith, common_steps) in
    let taken = IsPermutation-swap_remove xs 0 e some c.swap_remove-entry.ensures.value in
    let moved = rw c.swap_remove-entry.ensures.items at c.sink.ensures.moved in
    rw (← c.self.view_is) (
      IsPermutation-trans xs _ _ taken (IsPermutation-cons e _ _ moved),
      soonest-all xs _ e long c.swap_remove-entry.ensures.value c.self.invariant,
    )
