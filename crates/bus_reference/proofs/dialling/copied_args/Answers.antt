use Rattle.std.proofs.Common.{◌∙◌}
use Rattle.bus_reference.proofs.ArgLemmas.{args_more}
use Rattle.bus_reference.proofs.dialling.copied_args.Goals as goal

pub loop-arg-preserved : goal.loop-arg-preserved
loop-arg-preserved c =
    args_more c.args.args.now c.loop-arg.arg-index c.arg-item.result _ _ _ c.loop-arg-test.true c.arg-item.is
    c.loop-arg.invariant (c.in_ok-copy.ensures.value ∙ c.as_slice.ensures.value) c.in_ok-push.ensures.items
