use Rattle.std.proofs.Common.{◌≡◌, Contains, take}
use Rattle.tuple_core.specs.Gains.{Same}
use Rattle.bool_circuit.specs.Network.{Network}
use Rattle.bool_matrix.specs.Cells.{ThereIn}
use Rattle.rel_formula.specs.Instance.{InRelation}
use Rattle.rel_translate.specs.Tables.{AreLeaves}
use Rattle.rel_translate.proofs.Tabled.{ChosenAt, IsSoFar}
use Rattle.rel_translate.proofs.leaves.relation.Given as goal

abbrev pub invariant-loop-tuple : goal.invariant-loop-tuple
invariant-loop-tuple l = record {
  arity : l.out.arity ≡ l.initial.out.arity;
  there : Same (ThereIn l.out) (Contains (take l.tuple-index l.tuple-items));
  value : (network : Network) → AreLeaves network l.problem l.always l.inputs → IsSoFar network l.out (λ s. InRelation l.problem (ChosenAt s) l.number) (take l.tuple-index l.tuple-items);
}
