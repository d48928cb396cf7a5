use Rattle.std.proofs.Common.{take}
use Rattle.sat_trail.specs.Levels.{IsHighestBelow}
use Rattle.sat_trail.proofs.levels.highest_below.Given as goal

abbrev pub invariant-loop-lit : goal.invariant-loop-lit
invariant-loop-lit l = IsHighestBelow l.now.assigned (take l.lit-index l.lits) l.below l.highest
