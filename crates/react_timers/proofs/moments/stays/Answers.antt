use Rattle.std.proofs.Common.{◌∙◌, arith}
use Rattle.react_timers.proofs.Numbers.{moment-end}
use Rattle.react_timers.proofs.moments.stays.Goals as goal

pub returns : goal.returns
returns c =
    c.is_some.ensures ∙ moment-end c.args.number c.loop-op.moment c.args.live.now.items c.args.queue.now c.loop-op.op-index c.requires (omega arith) c.loop-op.invariant
