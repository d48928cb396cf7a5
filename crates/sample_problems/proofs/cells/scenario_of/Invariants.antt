use Rattle.rel_formula.specs.Instance.{AreCells}
use Rattle.sample_problems.proofs.cells.scenario_of.Given as goal

abbrev pub invariant-loop-cell : goal.invariant-loop-cell
invariant-loop-cell l = AreCells l.problem l.scenario
