use Rattle.std.proofs.Common.{[], rules}
use Rattle.react_core.specs.Step.{Apply, Done}
use Rattle.react_core.specs.Steps.{one-step}
use Rattle.react_core.proofs.reactor.Reactor.make_queue_place.Goals as goal

pub returns-then-not-can_push-clause-steps : goal.returns-then-not-can_push-clause-steps
returns-then-not-can_push-clause-steps c = one-step Apply Done [] (search rules)
