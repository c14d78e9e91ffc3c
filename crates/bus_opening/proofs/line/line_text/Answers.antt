use Rattle.std.proofs.Common.{◌-◌, length, arith}
use Rattle.bus_opening.specs.laws.Texts.{line_none, line_some}
use Rattle.bus_opening.proofs.line.line_text.Goals as goal

pub returns-in-Ok : goal.returns-in-Ok
returns-in-Ok c = line_some c.args.line.now c.in-Ok.text.now (length c.args.line.now - 2) (omega (arith, c.if-line-lt2.false)) c.if-line-end-ne13.false c.in-Ok.ensures.cases.0 c.in-Ok.ensures.cases.1

pub returns-in-Err : goal.returns-in-Err
returns-in-Err c = line_none c.args.line.now (length c.args.line.now - 2) (omega (arith, c.if-line-lt2.false)) c.in-Err.ensures.cases.0
