use Rattle.bus_reference.proofs.lines.+following.Given as goal

abbrev pub decreases-following : goal.decreases-following
decreases-following l = l.count
