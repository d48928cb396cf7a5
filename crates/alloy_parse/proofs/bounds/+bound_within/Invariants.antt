use Rattle.alloy_parse.proofs.bounds.+bound_within.Given as goal

abbrev pub decreases-bound_within : goal.decreases-bound_within
decreases-bound_within l = l.room
