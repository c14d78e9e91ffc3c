use Rattle.std.proofs.Common.{take, ◌∷◌}
use Rattle.std.specs.Fmt.{HasWritten, IsPlainFormatter}
use Rattle.std.specs.List.{flat_map}
use Rattle.bus_script.specs.Printed.{bytes_word}
use Rattle.bus_script.proofs.print.SpacedBytesDisplay.fmt.Given as goal

abbrev pub invariant-loop-bytes : goal.invariant-loop-bytes
invariant-loop-bytes g l =
    IsPlainFormatter l.initial.f → HasWritten g.W.Write.write_str_gives l.initial.f
    (flat_map (λ x. 32 ∷ bytes_word x) (take l.bytes-index l.bytes-items)) l.f
