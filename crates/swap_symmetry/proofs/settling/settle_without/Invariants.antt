use Rattle.std.proofs.Common.{length}
use Rattle.rel_formula.specs.Bounds.{cells_of}
use Rattle.swap_symmetry.proofs.PartlySettled.{SoFar}
use Rattle.swap_symmetry.proofs.Weights.{lacks}
use Rattle.swap_symmetry.proofs.settling.settle_without.Given as goal

abbrev pub invariant-swaps : goal.invariant-swaps
invariant-swaps l = SoFar l.problem l.floor l.fn.scenario l.scenario

abbrev pub decreases-swaps : goal.decreases-swaps
decreases-swaps l = lacks (length (cells_of l.problem)) l.scenario
