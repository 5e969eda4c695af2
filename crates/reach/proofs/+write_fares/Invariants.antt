use Rattle.reach.proofs.+write_fares.Given as goal

abbrev pub decreases-write_fares : goal.decreases-write_fares
decreases-write_fares l = l.w.left
