use Rattle.std.proofs.Common.{◌≡◌, take, length}
use Rattle.bus_signature.specs.Texts.{texts}
use Rattle.bus_signature.proofs.measuring.+measuring.Given as goal

abbrev pub invariant-texts_len-loop-signature : goal.invariant-texts_len-loop-signature
invariant-texts_len-loop-signature l = l.len ≡ length (texts (take l.signature-index l.signatures))
