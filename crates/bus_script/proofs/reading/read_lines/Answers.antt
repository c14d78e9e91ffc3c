use Rattle.std.proofs.Common.{sym, ◌∙◌, arith, [], rules}
use Rattle.std.proofs.lemmas.Result.{err_from_is_err_and}
use Rattle.bus_script.specs.Script.{lines_in}
use Rattle.bus_script.proofs.Lines.{step_ok, step_err, last_ok, fails_as}
use Rattle.bus_script.proofs.reading.read_lines.Goals as goal

pub returns-in_err-read_at : goal.returns-in_err-read_at
returns-in_err-read_at c =
    let p = err_from_is_err_and c.from_residual.result c.from_residual.ensures.1 in
    rw (p.1, p.2) (fails_as c.in_err-read_at.field-0.0 _ _ c.loop-line.invariant.1
    (step_err c.args.form c.loop-line.number c.loop-line.draft c.in-Some.line.now (lines_in c.in-Some.more.now)
    (lines_in c.loop-line.rest.now) c.in_err-read_at.field-0.0 c.in-Some.ensures.0 c.in_err-read_at.ensures))

pub loop-line-preserved : goal.loop-line-preserved
loop-line-preserved c = (
  search rules,
  sym (step_ok c.args.form c.loop-line.number c.loop-line.draft c.read_at.new.self c.in-Some.line.now (lines_in c.in-Some.more.now)
      (lines_in c.loop-line.rest.now) c.in-Some.ensures.0 c.in_ok-read_at.ensures) ∙ c.loop-line.invariant.1,
  omega (arith, c.in-Some.ensures.1),
)

pub returns-in_err-read_at-2 : goal.returns-in_err-read_at-2
returns-in_err-read_at-2 c =
    let p = err_from_is_err_and c.from_residual-in_err-read_at-2.result c.from_residual-in_err-read_at-2.ensures.1 in
    rw (p.1, p.2) (fails_as c.in_err-read_at-2.field-0.0 _ _ c.loop-line.invariant.1
    (step_err c.args.form c.loop-line.number c.loop-line.draft c.loop-line.rest.now [] (lines_in c.loop-line.rest.now)
    c.in_err-read_at-2.field-0.0 c.in_default.ensures c.in_err-read_at-2.ensures))

pub returns : goal.returns
returns c = sym c.loop-line.invariant.1 ∙ last_ok c.args.form c.loop-line.number c.loop-line.draft c.read_at-2.new.self
    c.loop-line.rest.now (lines_in c.loop-line.rest.now) c.in_default.ensures c.in_ok-read_at-2.ensures
