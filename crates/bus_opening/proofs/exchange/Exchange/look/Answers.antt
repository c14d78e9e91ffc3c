use Rattle.std.proofs.Common.{ap, take, ◌+◌}
use Rattle.bus_opening.proofs.Looking.{look_ok}
use Rattle.bus_opening.proofs.exchange.Exchange.look.Goals as goal

pub returns-clause-ok : goal.returns-clause-ok
returns-clause-ok c = look_ok c.self.inside c.args.self.now c.args.feed _ c.in_ok-stage.stage _ _ c.pass.new.self c.say.new.self
    c.self.view_is c.requires (ap (take (c.args.feed + 1)) c.as_slice.ensures.value) c.in_ok-stage.ensures c.as_slice-2.ensures.value c.in_ok-say.ensures.ok c.pass.ensures
