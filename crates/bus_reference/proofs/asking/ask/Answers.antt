use Rattle.bus_opening.specs.Talk.{ask}
use Rattle.bus_reference.proofs.asking.ask.Goals as goal

pub returns : goal.returns
unfolding ask
returns c = record { value = c.in_ok-asked.ensures.value }
