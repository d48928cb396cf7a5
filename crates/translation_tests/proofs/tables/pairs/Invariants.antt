use Rattle.std.proofs.Common.{◌≡◌, All}
use Rattle.tuple_core.specs.declared.atom.Atom.{Atom}
use Rattle.translation_tests.proofs.tables.pairs.Given as goal

abbrev pub invariant-loop-pair : goal.invariant-loop-pair
invariant-loop-pair l = record {
  arity : l.set.arity ≡ 2;
  first : All (All (λ (a : Atom). a.top ≡ 0)) l.set.rows;
}
