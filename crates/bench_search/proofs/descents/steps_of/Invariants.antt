use Rattle.rel_formula.specs.Instance.{AreCells}
use Rattle.bench_search.proofs.descents.steps_of.Given as goal

abbrev pub invariant-loop-cell : goal.invariant-loop-cell
invariant-loop-cell l = AreCells l.problem l.scenario
