use Rattle.reach.proofs.+down.Given as goal

abbrev pub decreases-down : goal.decreases-down
decreases-down l = l.left
