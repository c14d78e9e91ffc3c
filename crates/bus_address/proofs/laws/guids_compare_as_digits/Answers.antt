use Rattle.bus_address.proofs.GuidOrder.{guid_order}
use Rattle.bus_address.proofs.laws.guids_compare_as_digits.Goals as goal

pub returns-clause-less : goal.returns-clause-less
returns-clause-less c = guid_order
