use Rattle.std.proofs.Common.{rules}
use Rattle.std.proofs.Output.{has_written_of_eq, has_written_append}
use Rattle.bus_address.proofs.TextLemmas.{arguments_more}
use Rattle.bus_address.proofs.unixexec.ArgumentsDisplay.fmt.Goals as goal

pub loop-index-preserved : goal.loop-index-preserved
loop-index-preserved g c = λ p.
    has_written_of_eq _ _ _ _ _
    (arguments_more c.args.self.now.0.now c.loop-index.index c.argument-item.result c.as_slice.result.now c.loop-index-test.true c.argument-item.is c.as_slice.ensures.value)
    (has_written_append _ _ _ _ _ _ (c.loop-index.invariant p) (search rules))
