use Rattle.std.proofs.Common.{◌-◌, length, arith}
use Rattle.bus_opening.specs.laws.Texts.{line_none, line_some}
use Rattle.bus_reference.proofs.reading.text_of_line.Goals as goal

pub returns-in-Ok : goal.returns-in-Ok
returns-in-Ok c = record {
  value = line_some c.args.line.now c.in-Ok.text.now (length c.args.line.now - 2) (omega
      (arith, c.if-line-lt2.false)) c.if-line-end-ne13.false c.in-Ok.ensures.cases.0 c.in-Ok.ensures.cases.1;
}

pub returns-in-Err : goal.returns-in-Err
returns-in-Err c = record { value = line_none c.args.line.now (length c.args.line.now - 2) (omega (arith, c.if-line-lt2.false)) c.in-Err.ensures.cases.0 }
