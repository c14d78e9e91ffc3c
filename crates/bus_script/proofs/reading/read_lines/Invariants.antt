use Rattle.std.proofs.Common.{◌≡◌, ◌≤◌, ◌+◌, length}
use denote.Text.{Utf8}
use denote.Shadow.{shadow}
use Rattle.bus_script.specs.Script.{empty, read_lines, lines_in}
use Rattle.bus_script.proofs.reading.read_lines.Given as goal

-- says that each `&str` the loop changes is text: keep it, and add clauses with ×
abbrev pub invariant-loop-line : goal.invariant-loop-line
invariant-loop-line l = shadow (Utf8 l.rest)
    × (read_lines l.form l.number l.draft (lines_in l.rest) ≡ read_lines l.form 1 empty (lines_in l.text))
    × (l.number + length l.rest ≤ 1 + length l.text)

abbrev pub decreases-loop-line : goal.decreases-loop-line
decreases-loop-line l = length l.rest
