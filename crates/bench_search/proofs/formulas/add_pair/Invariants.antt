use Rattle.bench_search.specs.Formulas.{IsSmall}
use Rattle.bench_search.proofs.formulas.add_pair.Given as goal

abbrev pub invariant-loop-hole : goal.invariant-loop-hole
invariant-loop-hole l = IsSmall l.vars l.formula
