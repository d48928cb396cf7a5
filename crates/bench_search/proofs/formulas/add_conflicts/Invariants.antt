use Rattle.bench_search.specs.Formulas.{IsSmall}
use Rattle.bench_search.proofs.formulas.add_conflicts.Given as goal

abbrev pub invariant-loop-other : goal.invariant-loop-other
invariant-loop-other l = IsSmall l.vars l.formula
