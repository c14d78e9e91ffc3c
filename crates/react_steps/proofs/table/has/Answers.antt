use Rattle.std.proofs.Common.{◌∙◌}
use Rattle.react_steps.proofs.Rows.{found-some}
use Rattle.react_steps.proofs.table.has.Goals as goal

pub returns : goal.returns
returns g c = c.is_some.ensures ∙ found-some c.args.key c.args.rows.now c.find.result c.find.ensures
