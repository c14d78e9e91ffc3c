use Rattle.std.proofs.Common.{◌∙◌}
use Rattle.bus_signature.specs.contracts.signature.SignatureOrd.TheImpl.Laws.{matches_partial_cmp-law}
use Rattle.bus_signature.proofs.laws.partial_order.Goals as goal

pub returns-clause-order : goal.returns-clause-order
returns-clause-order c = c.partial_cmp.ensures ∙ matches_partial_cmp-law c.args.a.now c.args.b.now
