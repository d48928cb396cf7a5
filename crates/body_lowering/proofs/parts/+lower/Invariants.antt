use Rattle.body_lowering.proofs.parts.+lower.Given as goal

abbrev pub decreases-lower : goal.decreases-lower
decreases-lower l = l.at.levels
