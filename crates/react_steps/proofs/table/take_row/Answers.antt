use Rattle.std.proofs.Common.{sym}
use Rattle.react_core.proofs.Totals.{without_at-absent}
use Rattle.react_steps.proofs.table.take_row.Goals as goal

pub returns-in_default : goal.returns-in_default
returns-in_default g c = sym (without_at-absent c.args.rows.now.items c.args.key (rw c.deref.ensures.value at c.in_default.ensures))
