use Rattle.std.proofs.Common.{[], sym}
use Rattle.std.proofs.lemmas.Result.{err_from_is_err_and}
use Rattle.bus_script.proofs.Loops.{readies_on, readies_stop, readies_done}
use Rattle.bus_script.proofs.forms.readies.Goals as goal

pub returns-in_err-ready : goal.returns-in_err-ready
returns-in_err-ready c =
    let p = err_from_is_err_and c.from_residual-in_err-ready.result c.from_residual-in_err-ready.ensures.1 in
    rw (p.1, p.2) (readies_stop c.args.words.now c.loop-word.word-index (record { ref_ptr = (0, 0); now = [] })
    c.loop-word.found.items c.in_err-ready.field-0.0 c.loop-word-test.true (sym c.in_err-ready.ensures)
    c.loop-word.invariant)

pub loop-word-preserved : goal.loop-word-preserved
loop-word-preserved c = readies_on c.args.words.now c.loop-word.word-index (record { ref_ptr = (0, 0); now = [] })
    c.loop-word.found.items c.push.new.self.items c.in_ok-ready.field-0 c.loop-word-test.true
    (sym c.in_ok-ready.ensures) c.in_ok-push.ensures.items c.loop-word.invariant

pub returns : goal.returns
returns c = rw c.from_vec.ensures.items (readies_done c.args.words.now c.loop-word.word-index c.loop-word.found.items
    c.loop-word-test.false c.loop-word.invariant)
