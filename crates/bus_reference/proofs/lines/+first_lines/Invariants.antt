use Rattle.bus_reference.proofs.lines.+first_lines.Given as goal

abbrev pub decreases-first_lines : goal.decreases-first_lines
decreases-first_lines l = l.count
