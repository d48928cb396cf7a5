use Rattle.std.proofs.Common.{◌≡◌, ◌≤◌, ◌<◌, ◌+◌, ◌*◌, All, length, take, count_by}
use Rattle.bool_circuit.specs.Network.{size}
use Rattle.bool_circuit.specs.Value.{value_at, Extends}
use Rattle.bool_matrix.specs.Counter.{Counts}
use Rattle.bool_matrix.proofs.matrix.Matrix.many.Given as goal

abbrev pub invariant-loop-entry : goal.invariant-loop-entry
invariant-loop-entry l = record {
  extends : Extends l.fn.circuit l.circuit;
  len : length l.row.items ≡ l.n;
  there : All (λ k. k < length l.circuit.shapes) l.row.items;
  counts : Counts l.circuit l.row.items (λ inputs. count_by (λ e. value_at l.fn.circuit e.node inputs) (take l.entry-index l.entries));
  size : size l.circuit ≤ size l.fn.circuit + l.entry-index * (2 * l.n);
}
