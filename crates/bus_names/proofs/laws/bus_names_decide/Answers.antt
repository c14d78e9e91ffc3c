use Rattle.bus_names.specs.Decides.{Decides-is_bus_name}
use Rattle.bus_names.proofs.laws.bus_names_decide.Goals as goal

pub returns : goal.returns
returns c = Decides-is_bus_name
