use Rattle.std.proofs.Common.{◌≡◌, ◌+◌, ◌≤◌, length, drop}
use Rattle.react_timers.specs.Held.{Held}
use Rattle.react_timers.specs.Live.{applied_all, insertions}
use Rattle.react_timers.proofs.held.apply_all.Given as goal

-- what is done so far and what is left give the whole
abbrev pub invariant-loop-op : goal.invariant-loop-op
invariant-loop-op l = record {
  live : applied_all l.live.items (drop l.op-index l.queue) ≡ applied_all l.fn.live.items l.queue;
  held : Held l.entries.items l.live.items;
  entry_room : length l.entries.items + insertions (drop l.op-index l.queue) ≤ length l.fn.entries.items + insertions l.queue;
  len : length l.live.items + insertions (drop l.op-index l.queue) ≤ length l.fn.live.items + insertions l.queue;
  live_room : l.live.used + insertions (drop l.op-index l.queue) ≤ l.fn.live.used + insertions l.queue;
  places : l.fn.entries.places ≤ l.entries.places;
  live_places : l.live.places ≡ l.fn.live.places;
}
