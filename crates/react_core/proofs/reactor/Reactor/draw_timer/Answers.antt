use Rattle.std.proofs.Common.{◌+◌, [], rules}
use Rattle.react_core.specs.Step.{Draw, Drew}
use Rattle.react_core.specs.Steps.{one-step}
use Rattle.react_core.proofs.reactor.Reactor.draw_timer.Goals as goal

pub returns-clause-steps : goal.returns-clause-steps
returns-clause-steps c = one-step Draw (Drew (c.self.inside.made + 1)) [] (search rules)
