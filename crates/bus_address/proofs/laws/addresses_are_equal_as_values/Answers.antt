use Rattle.bus_address.proofs.EqualLemmas.{addresses_tell}
use Rattle.bus_address.proofs.laws.addresses_are_equal_as_values.Goals as goal

pub returns : goal.returns
returns c = addresses_tell
