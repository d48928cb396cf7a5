use Rattle.std.proofs.Common.{take, ◌≤◌, ◌+◌, ◌*◌, IsTrue}
use Rattle.bool_circuit.specs.Network.{size}
use Rattle.bool_circuit.specs.Value.{value_at, Extends}
use Rattle.bool_matrix.specs.Cells.{TrueIn, Says}
use Rattle.bool_matrix.proofs.ComparedEntries.{Each}
use Rattle.bool_matrix.proofs.matrix.Matrix.all_within.Given as goal

abbrev pub invariant-loop-entry : goal.invariant-loop-entry
invariant-loop-entry l = record {
  extends : Extends l.fn.circuit l.circuit;
  says : Says l.circuit l.all (λ inputs. IsTrue (value_at l.fn.circuit l.fn.start inputs) × Each (take l.entry-index l.entry-items) (λ e. IsTrue (value_at l.fn.circuit e.node inputs) → TrueIn l.fn.circuit l.other inputs e.tuple));
  size : size l.circuit ≤ size l.fn.circuit + 3 * l.entry-index;
}
