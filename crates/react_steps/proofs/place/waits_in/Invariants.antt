use Rattle.std.proofs.Common.{◌≡◌, drop}
use Rattle.react_core.specs.Sources.{some_task}
use Rattle.react_steps.proofs.place.waits_in.Given as goal

abbrev pub invariant-loop-row : goal.invariant-loop-row
invariant-loop-row l = some_task (drop l.row-index l.futures) ≡ some_task l.futures
