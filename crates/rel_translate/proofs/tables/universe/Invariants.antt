use Rattle.std.proofs.Common.{◌≡◌, take}
use Rattle.tuple_core.specs.Gains.{Same}
use Rattle.bool_circuit.specs.Network.{Network}
use Rattle.bool_matrix.specs.Cells.{ThereIn}
use Rattle.rel_formula.specs.Instance.{InSome}
use Rattle.rel_terms.specs.Upper.{InUpperSet}
use Rattle.rel_translate.specs.Tables.{AreLeaves}
use Rattle.rel_translate.proofs.Tabled.{AreTopsSoFar}
use Rattle.rel_translate.proofs.tables.universe.Given as goal

abbrev pub invariant-loop-top : goal.invariant-loop-top
invariant-loop-top l = record {
  arity : l.out.arity ≡ 1;
  there : Same (ThereIn l.out) (InSome (take l.top-index l.top-items) (InUpperSet l.problem));
  value : (network : Network) → AreLeaves network l.problem l.fn.always l.inputs → AreTopsSoFar network l.problem l.out (take l.top-index l.top-items);
}
