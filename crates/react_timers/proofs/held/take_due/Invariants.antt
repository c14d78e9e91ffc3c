use Rattle.std.proofs.Common.{◌≡◌, ◌+◌, ◌≤◌, ◌++◌, length, vec_len, vec_capacity}
use Rattle.react_timers.specs.Held.{Held}
use Rattle.react_timers.specs.Live.{due, later, tasks}
use Rattle.react_timers.proofs.held.take_due.Given as goal

-- what is in hand and what is left due give the whole
abbrev pub invariant-loop-entry : goal.invariant-loop-entry
invariant-loop-entry l = record {
  hands : l.hands.items ++ tasks (due l.now l.live.items) ≡ l.fn.hands.items ++ tasks (due l.now l.fn.live.items);
  live : later l.now l.live.items ≡ later l.now l.fn.live.items;
  held : Held l.entries.items l.live.items;
  fewer : length l.entries.items ≤ length l.fn.entries.items;
  len : length l.live.items ≤ length l.fn.live.items;
  used : l.live.used ≤ l.fn.live.used;
  places : l.fn.entries.places ≡ l.entries.places;
  live_places : l.live.places ≡ l.fn.live.places;
  hands_len : vec_len l.hands + length l.live.items ≡ vec_len l.fn.hands + length l.fn.live.items;
  hands_capacity : vec_capacity l.hands ≡ vec_capacity l.fn.hands;
}

abbrev pub decreases-loop-entry : goal.decreases-loop-entry
decreases-loop-entry l = length l.entries.items
