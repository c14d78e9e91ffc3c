use Rattle.std.proofs.lemmas.List.Sorted.{IsPermutation-trans, IsPermutation-sym, IsPermutation-to_front}
use Rattle.react_timers.proofs.entries.Entries.add.Goals as goal

pub returns-clause-items : goal.returns-clause-items
returns-clause-items c =
    let xs = c.self.inside.items.items in
    rw (← c.self.view_is) (IsPermutation-trans _ _ _ (IsPermutation-sym _ _ (IsPermutation-to_front xs c.args.entry)) (rw c.push_reserved.ensures.items at c.rise.ensures.moved))
