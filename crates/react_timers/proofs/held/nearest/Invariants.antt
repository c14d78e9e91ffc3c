use Rattle.std.proofs.Common.{◌≡◌, ◌≤◌, length}
use Rattle.react_timers.specs.Held.{Held}
use Rattle.react_timers.proofs.held.nearest.Given as goal

abbrev pub invariant-loop-entry : goal.invariant-loop-entry
invariant-loop-entry l = record {
  held : Held l.entries.items l.live.items;
  fewer : length l.entries.items ≤ length l.fn.entries.items;
  places : l.fn.entries.places ≡ l.entries.places;
}

abbrev pub decreases-loop-entry : goal.decreases-loop-entry
decreases-loop-entry l = length l.entries.items
