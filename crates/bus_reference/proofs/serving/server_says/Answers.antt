use Rattle.bus_opening.specs.Server.{server_terms_of}
use Rattle.bus_reference.proofs.SaidLemmas.{server_is}
use Rattle.bus_reference.proofs.serving.server_says.Goals as goal

pub returns : goal.returns
returns c = record { value = rw (← server_is (server_terms_of c.args.config.now c.args.passes) c.args.lines.now) c.said_from.ensures.value }
