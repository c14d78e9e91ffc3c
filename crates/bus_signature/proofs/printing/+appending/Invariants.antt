use Rattle.std.proofs.Common.{◌≡◌, ◌++◌, take}
use Rattle.std.specs.String.{string_bytes}
use Rattle.bus_signature.specs.Texts.{texts}
use Rattle.bus_signature.proofs.printing.+appending.Given as goal

abbrev pub invariant-append_all-loop-signature : goal.invariant-append_all-loop-signature
invariant-append_all-loop-signature l = string_bytes l.w ≡ string_bytes l.fn.w ++ texts (take l.signature-index l.signatures)
