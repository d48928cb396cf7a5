use Rattle.std.proofs.Common.{◌≡◌, ◌-◌, ◌^◌, List, length, Contains}
use Rattle.tuple_core.specs.declared.atom.Atom.{Atom}
use Rattle.tuple_core.specs.Operators.{Closed}
use Rattle.tuple_core.proofs.tuple_set.TupleSet.closure.Given as goal

abbrev pub invariant-loop-walks : goal.invariant-loop-walks
invariant-loop-walks l = record {
  arity : l.walks.arity ≡ 2;
  base : (t : List Atom) → Contains l.self.rows t → Contains l.walks.rows t;
  sound : (t : List Atom) → Contains l.walks.rows t → Closed (Contains l.self.rows) t;
}

abbrev pub decreases-loop-walks : goal.decreases-loop-walks
decreases-loop-walks l = 2 ^ 64 - length l.walks.rows
