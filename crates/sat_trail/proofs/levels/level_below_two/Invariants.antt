use Rattle.std.proofs.Common.{take}
use Rattle.sat_trail.proofs.Heights.{AreTwoHighest}
use Rattle.sat_trail.proofs.levels.level_below_two.Given as goal

abbrev pub invariant-loop-lit : goal.invariant-loop-lit
invariant-loop-lit l = AreTwoHighest l.now.assigned (take l.lit-index l.lits) l.next l.highest
