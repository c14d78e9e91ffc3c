use Rattle.std.proofs.Common.{arith}
use Rattle.react_timers.proofs.Covers.{covered-self, rebuilt-length}
use Rattle.react_timers.proofs.held.trim.Goals as goal

pub returns-then-len-div_ceil-clause-held : goal.returns-then-len-div_ceil-clause-held
returns-then-len-div_ceil-clause-held c =
    rw (← c.slots.ensures) (record {
      rises = rw (c.slots.ensures, c.close_up.ensures.items) c.requires.held.rises;
      covered = covered-self c.rebuild.new.self.items _ c.rebuild.ensures.items;
    })

pub returns-then-len-div_ceil-clause-bound : goal.returns-then-len-div_ceil-clause-bound
returns-then-len-div_ceil-clause-bound c =
    let long = rw c.slots.ensures at (rebuilt-length _ _ c.rebuild.ensures.items) in omega (arith, long)

pub returns-then-len-div_ceil-clause-fewer : goal.returns-then-len-div_ceil-clause-fewer
returns-then-len-div_ceil-clause-fewer c =
    let long = rw c.slots.ensures at (rebuilt-length _ _ c.rebuild.ensures.items) in omega (arith, long)
