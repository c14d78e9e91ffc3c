use Rattle.std.proofs.Common.{◌≡◌, false, take}
use Rattle.std.specs.List.{list_any}
use Rattle.react_timers.specs.Moments.{stays, insertion_passes}
use Rattle.react_timers.proofs.moments.any_insertion_stays.Given as goal

-- no number so far stays
abbrev pub invariant-loop-op : goal.invariant-loop-op
invariant-loop-op l = list_any (insertion_passes (stays l.live.items l.queue)) (take l.op-index l.queue) ≡ false
