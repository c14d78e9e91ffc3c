use Rattle.std.proofs.Common.{take, ◌∷◌}
use Rattle.std.specs.Fmt.{HasWritten, IsPlainFormatter}
use Rattle.std.specs.List.{flat_map}
use Rattle.bus_script.specs.Printed.{report_word}
use Rattle.bus_script.proofs.print.SpacedReportsDisplay.fmt.Given as goal

abbrev pub invariant-loop-report : goal.invariant-loop-report
invariant-loop-report g l =
    IsPlainFormatter l.initial.f → HasWritten g.W.Write.write_str_gives l.initial.f
    (flat_map (λ x. 32 ∷ report_word x) (take l.report-index l.report-items)) l.f
