use Rattle.std.proofs.Common.{◌≡◌, ◌++◌, drop}
use Rattle.react_core.specs.Reports.{future_tasks}
use Rattle.react_steps.proofs.place.take_tasks.Given as goal

-- what is in hand so far and what is left give the whole
abbrev pub invariant-loop-row : goal.invariant-loop-row
invariant-loop-row l = l.hands.items ++ future_tasks (drop l.row-index l.futures) ≡ l.fn.hands.items ++ future_tasks l.futures
