use Rattle.bench_search.specs.Formulas.{IsSmall}
use Rattle.bench_search.proofs.formulas.chain.Given as goal

abbrev pub invariant-loop-place : goal.invariant-loop-place
invariant-loop-place l = IsSmall l.vars l.formula
