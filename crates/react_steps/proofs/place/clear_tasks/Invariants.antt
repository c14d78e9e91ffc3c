use Rattle.std.proofs.Common.{◌≡◌, vec_len}
use Rattle.react_steps.proofs.Clearing.{cleared}
use Rattle.react_steps.proofs.place.clear_tasks.Given as goal

abbrev pub invariant-loop-at : goal.invariant-loop-at
invariant-loop-at l = record { items : l.futures.items ≡ cleared l.at l.fn.futures.items; len : vec_len l.futures ≡ vec_len l.fn.futures; end : l.at-end ≡ vec_len l.fn.futures }
