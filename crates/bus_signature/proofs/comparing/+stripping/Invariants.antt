use Rattle.std.proofs.Common.{◌≡◌, ◌++◌, take}
use Rattle.bus_signature.specs.Texts.{texts}
use Rattle.bus_signature.proofs.comparing.+stripping.Given as goal

abbrev pub invariant-strip_all-loop-signature : goal.invariant-strip_all-loop-signature
invariant-strip_all-loop-signature l = l.bytes ≡ texts (take l.signature-index l.signatures) ++ l.rest
