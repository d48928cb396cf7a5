use Rattle.bench_search.specs.Formulas.{IsSmall}
use Rattle.bench_search.proofs.formulas.pigeons.Given as goal

abbrev pub invariant-loop-pigeon : goal.invariant-loop-pigeon
invariant-loop-pigeon l = IsSmall l.vars l.formula

abbrev pub invariant-loop-pigeon-2 : goal.invariant-loop-pigeon-2
invariant-loop-pigeon-2 l = IsSmall l.vars l.formula
