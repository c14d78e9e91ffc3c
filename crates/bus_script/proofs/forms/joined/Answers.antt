use Rattle.std.proofs.Common.{[]}
use Rattle.std.specs.String.{string_bytes}
use Rattle.bus_script.proofs.Loops.{joined_on}
use Rattle.bus_script.proofs.forms.joined.Goals as goal

pub loop-word-preserved : goal.loop-word-preserved
loop-word-preserved c = joined_on c.args.first.now c.args.others.now c.loop-word.word-index
    (record { ref_ptr = (0, 0); now = [] }) (string_bytes c.loop-word.text) (string_bytes c.append_word.new.text)
    c.loop-word-test.true c.loop-word.invariant c.in_ok-append_word.ensures
