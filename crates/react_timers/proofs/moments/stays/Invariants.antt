use Rattle.std.proofs.Common.{◌≡◌, drop}
use Rattle.react_timers.specs.Moments.{moment_of, moment_after_all}
use Rattle.react_timers.proofs.moments.stays.Given as goal

-- the moment so far and what is left give the moment after all
abbrev pub invariant-loop-op : goal.invariant-loop-op
invariant-loop-op l =
    moment_after_all l.number l.moment (drop l.op-index l.queue) ≡ moment_after_all l.number (moment_of l.number l.live.items) l.queue
