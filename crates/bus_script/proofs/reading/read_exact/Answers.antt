use Rattle.std.proofs.Common.{arith}
use Rattle.bus_script.proofs.Lines.{script_ok, script_err}
use Rattle.bus_script.proofs.reading.read_exact.Goals as goal

pub returns-in-Ok-read_lines : goal.returns-in-Ok-read_lines
returns-in-Ok-read_lines c = rw (script_ok c.args.form c.args.bytes.now c.in-Ok-read_lines.draft (omega arith)
    c.in-Ok.ensures.cases.1 (rw c.in-Ok.ensures.cases.0 at c.in-Ok-read_lines.ensures)) c.finish.ensures

pub returns-in-Err-read_lines : goal.returns-in-Err-read_lines
returns-in-Err-read_lines c = script_err c.args.form c.args.bytes.now c.in-Err-read_lines.e (omega arith) c.in-Ok.ensures.cases.1
    (rw c.in-Ok.ensures.cases.0 at c.in-Err-read_lines.ensures)
