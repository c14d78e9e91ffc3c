use Rattle.std.proofs.Common.{◌∙◌}
use Rattle.bus_address.proofs.ListLemmas.{pointwise_items}
use Rattle.bus_address.proofs.octets.OctetListPartialEq.eq.Goals as goal

pub returns : goal.returns
returns c = rw (← c.as_slice.ensures, ← c.as_slice-2.ensures) (c.eq.ensures ∙ pointwise_items c.as_slice.result.now c.as_slice-2.result.now)
