use Rattle.std.proofs.Common.{◌≡◌, ◌<◌, ℕ, length, get_or}
use Rattle.bool_circuit.specs.Network.{Network}
use Rattle.bool_matrix.specs.Cells.{Cells}
use Rattle.rel_translate.specs.Tables.{AreLeaves, IsRelationOf}
use Rattle.rel_translate.proofs.tables.all_relations.Given as goal

abbrev pub invariant-loop-number : goal.invariant-loop-number
invariant-loop-number l = record {
  count : length l.matrices.items ≡ l.number;
  each : (network : Network) → AreLeaves network l.problem l.always l.inputs → (r : ℕ) (d : Cells) → r < length l.matrices.items → IsRelationOf network l.problem r (get_or l.matrices.items r d);
}
