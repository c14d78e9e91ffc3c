use Rattle.std.proofs.Common.{take}
use Rattle.bus_signature.specs.Grammar.{AreComplete}
use Rattle.bus_signature.proofs.laws.+completing.Given as goal

abbrev pub invariant-are_complete-loop-signature : goal.invariant-are_complete-loop-signature
invariant-are_complete-loop-signature l = AreComplete l.arrays l.structures (take l.signature-index l.signatures)
