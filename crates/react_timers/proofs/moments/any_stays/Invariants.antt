use Rattle.std.proofs.Common.{◌≡◌, false, take}
use Rattle.std.specs.List.{list_any}
use Rattle.react_timers.specs.Moments.{stays}
use Rattle.react_timers.specs.Slots.{lives}
use Rattle.react_timers.proofs.moments.any_stays.Given as goal

-- no number so far stays
abbrev pub invariant-loop-slot : goal.invariant-loop-slot
invariant-loop-slot l =
    list_any (λ t. stays l.live.items l.queue t.number) (lives (take l.slot-index l.slot-items)) ≡ false
