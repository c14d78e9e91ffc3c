use Rattle.std.proofs.Common.{◌≡◌, ◌<◌, length, vec_len, arith}
use Rattle.std.proofs.lemmas.Grind.{common_steps}
use Rattle.react_timers.proofs.Sifts.{contains_top, soonest-all}
use Rattle.react_timers.proofs.entries.Entries.soonest.Goals as goal

pub returns : goal.returns
returns c =
    let xs = c.self.inside.items.items in
    let long : vec_len c.self.inside.items ≡ length xs = grind (arith, common_steps) in
    let some : 0 < length xs = grind (arith, common_steps) in
    rw (← c.self.view_is) (contains_top xs c.index-entry.result.now some c.index-entry.ensures, soonest-all xs _ c.index-entry.result.now long c.index-entry.ensures c.self.invariant)
