use Rattle.std.proofs.Common.{◌≡◌, ◌<◌, All}
use Rattle.tuple_core.specs.declared.atom.Atom.{Atom}
use Rattle.bench_search.proofs.sets.atoms.Given as goal

abbrev pub invariant-loop-place : goal.invariant-loop-place
invariant-loop-place l = record {
  arity : l.set.arity ≡ 1;
  tops : All (All (λ (a : Atom). a.top < 1)) l.set.rows;
}
