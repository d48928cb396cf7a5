use Rattle.rel_formula.specs.Instance.{AreCells}
use Rattle.sample_problems.proofs.cells.chosen.Given as goal

abbrev pub invariant-loop-number : goal.invariant-loop-number
invariant-loop-number l = AreCells l.problem l.scenario
