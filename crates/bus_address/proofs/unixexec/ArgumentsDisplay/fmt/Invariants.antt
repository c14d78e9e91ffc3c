use Rattle.std.proofs.Common.{map, take}
use Rattle.std.specs.Fmt.{HasWritten, IsPlainFormatter}
use Rattle.bus_address.specs.Printed.{arguments_text}
use Rattle.bus_address.proofs.unixexec.ArgumentsDisplay.fmt.Given as goal

abbrev pub invariant-loop-index : goal.invariant-loop-index
invariant-loop-index g l =
    IsPlainFormatter l.initial.f → HasWritten g.W.Write.write_str_gives l.initial.f (arguments_text (map (λ v. v.items) (take l.index l.argument-items))) l.f
