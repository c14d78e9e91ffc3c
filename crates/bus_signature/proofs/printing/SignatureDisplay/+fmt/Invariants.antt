use Rattle.std.proofs.Common.{take}
use Rattle.std.specs.Fmt.{HasWritten, IsPlainFormatter}
use Rattle.bus_signature.specs.Texts.{texts}
use Rattle.bus_signature.proofs.printing.SignatureDisplay.+fmt.Given as goal

abbrev pub invariant-loop-field : goal.invariant-loop-field
invariant-loop-field g l = IsPlainFormatter l.initial.f → HasWritten g.W.Write.write_str_gives l.initial.f (texts (take l.field-index l.field-items)) l.f
