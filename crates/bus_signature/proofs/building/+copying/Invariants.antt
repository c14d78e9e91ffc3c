use Rattle.std.proofs.Common.{◌≡◌, take}
use Rattle.bus_signature.proofs.building.+copying.Given as goal

abbrev pub invariant-copy_all-loop-signature : goal.invariant-copy_all-loop-signature
invariant-copy_all-loop-signature l = l.copied ≡ take l.signature-index l.signatures
