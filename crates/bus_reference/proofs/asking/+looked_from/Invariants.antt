use Rattle.bus_reference.proofs.asking.+looked_from.Given as goal

abbrev pub decreases-looked_from : goal.decreases-looked_from
decreases-looked_from l = l.more
