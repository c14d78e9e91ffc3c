use Rattle.std.proofs.Common.{◌≡◌, ◌+◌, ◌≤◌, ◌++◌, length, vec_len, vec_capacity}
use Rattle.react_core.proofs.Slots.{taken_to, tasks_to}
use Rattle.react_core.proofs.interest.take_futures.Given as goal

-- the tasks at the places so far are taken
abbrev pub invariant-loop-place : goal.invariant-loop-place
invariant-loop-place l = record {
  slots : l.futures.slots ≡ taken_to l.fn.futures.slots l.place;
  hands : l.hands.items ≡ l.fn.hands.items ++ tasks_to l.fn.futures.slots l.place;
  len : vec_len l.hands ≡ vec_len l.fn.hands + length (tasks_to l.fn.futures.slots l.place);
  capacity : vec_capacity l.hands ≡ vec_capacity l.fn.hands;
  room : length l.fn.futures.slots ≤ l.place-end;
}
