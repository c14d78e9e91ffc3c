use Rattle.std.proofs.Common.{arith}
use Rattle.std.proofs.lemmas.List.Sorted.{length_permutation}
use Rattle.react_timers.proofs.Covers.{held-insert, held-remove}
use Rattle.react_timers.proofs.held.apply_op.Goals as goal

pub returns-then-put_in-clause-held : goal.returns-then-put_in-clause-held
returns-then-put_in-clause-held c = rw c.put_in.ensures.items (held-insert _ _ _ _ c.requires.held c.add.ensures.items)

pub returns-then-put_in-clause-entry_room : goal.returns-then-put_in-clause-entry_room
returns-then-put_in-clause-entry_room c = let long = length_permutation _ _ c.add.ensures.items in rw c.in-Insert.is (omega (arith, long))

pub returns-in-Remove-clause-held : goal.returns-in-Remove-clause-held
returns-in-Remove-clause-held c = rw c.take_out.ensures.items (held-remove _ _ _ _ c.requires.held)
