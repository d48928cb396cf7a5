use Rattle.std.proofs.Common.{◌≡◌, ◌-◌, ◌^◌, List, length, Contains}
use Rattle.tuple_core.specs.declared.atom.Atom.{Atom}
use Rattle.tuple_core.specs.Operators.{Closed}
use Rattle.rel_terms.proofs.operators.closed.Given as goal

abbrev pub invariant-loop-alloc : goal.invariant-loop-alloc
invariant-loop-alloc l = record {
  arity : l.walks.arity ≡ 2;
  base : (t : List Atom) → Contains l.pairs.rows t → Contains l.walks.rows t;
  sound : (t : List Atom) → Contains l.walks.rows t → Closed (Contains l.pairs.rows) t;
}

abbrev pub decreases-loop-alloc : goal.decreases-loop-alloc
decreases-loop-alloc l = 2 ^ 64 - length l.walks.rows
