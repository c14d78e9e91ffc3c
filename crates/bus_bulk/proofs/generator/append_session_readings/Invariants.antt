use Rattle.std.proofs.Common.{◌≡◌, ◌++◌, map, string_bytes}
use Rattle.std.specs.List.{flat_map}
use Rattle.bus_script.specs.Printed.{line_text}
use Rattle.bus_bulk.specs.Bulk.{reading_words, session_readings}
use Rattle.bus_bulk.proofs.generator.append_session_readings.Given as goal

abbrev pub invariant-loop-session : goal.invariant-loop-session
invariant-loop-session l =
    string_bytes l.text ≡ string_bytes l.initial.text ++ flat_map line_text
    (map reading_words (session_readings l.session))
