use Rattle.std.proofs.Common.{◌≡◌, ◌++◌, string_bytes}
use Rattle.std.specs.List.{flat_map}
use Rattle.bus_script.specs.Printed.{line_text}
use Rattle.bus_bulk.specs.Bulk.{session_lines}
use Rattle.bus_bulk.proofs.generator.append_sessions.Given as goal

abbrev pub invariant-loop-session : goal.invariant-loop-session
invariant-loop-session l =
    string_bytes l.text ≡ string_bytes l.initial.text ++ flat_map line_text (session_lines l.session)
