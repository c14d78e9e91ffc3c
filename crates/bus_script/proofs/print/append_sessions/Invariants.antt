use Rattle.std.proofs.Common.{◌≡◌, ◌++◌, take}
use Rattle.std.specs.String.{string_bytes}
use Rattle.bus_script.specs.Printed.{session_lines}
use Rattle.bus_script.proofs.print.append_sessions.Given as goal

abbrev pub invariant-loop-ended : goal.invariant-loop-ended
invariant-loop-ended l = string_bytes l.text ≡ string_bytes l.initial.text ++ session_lines
    (take l.ended-index l.endeds)
