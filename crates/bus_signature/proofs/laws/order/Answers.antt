use Rattle.bus_signature.proofs.KindOrder.{is_signature_order, ties_equal}
use Rattle.bus_signature.proofs.laws.order.Goals as goal

pub returns-clause-order : goal.returns-clause-order
returns-clause-order c = is_signature_order

pub returns-clause-equal : goal.returns-clause-equal
returns-clause-equal c = ties_equal
