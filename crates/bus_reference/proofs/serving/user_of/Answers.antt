use Rattle.std.proofs.Common.{ap, ◌∙◌}
use Rattle.bus_opening.specs.Server.{user_of}
use Rattle.bus_opening.specs.laws.Users.{parsed, no_user}
use Rattle.bus_reference.proofs.serving.user_of.Goals as goal

pub returns-in_default : goal.returns-in_default
returns-in_default c = record { value = no_user c.args.bytes.now c.in_default.ensures.cases.0 }

pub returns : goal.returns
returns c = record { value = c.ok.ensures.value ∙ parsed c.in-Ok.text.now c.parse.result c.parse.ensures.value.0 ∙ ap user_of c.in-Ok.ensures.cases.0 }
