use Rattle.std.proofs.Common.{take, ◌∷◌}
use Rattle.std.specs.Fmt.{HasWritten, IsPlainFormatter}
use Rattle.std.specs.List.{flat_map}
use Rattle.bus_script.specs.Printed.{peer_word}
use Rattle.bus_script.proofs.print.SpacedPeersDisplay.fmt.Given as goal

abbrev pub invariant-loop-peer : goal.invariant-loop-peer
invariant-loop-peer g l =
    IsPlainFormatter l.initial.f → HasWritten g.W.Write.write_str_gives l.initial.f
    (flat_map (λ x. 32 ∷ peer_word x) (take l.peer-index l.peer-items)) l.f
