use Rattle.std.proofs.Common.{take, length, ◌≤◌, ◌+◌, ◌*◌, ◌≡◌, ◌++◌}
use Rattle.tuple_core.specs.Gains.{SomeGives}
use Rattle.bool_circuit.specs.Network.{size}
use Rattle.bool_circuit.specs.Value.{Extends}
use Rattle.bool_matrix.specs.Cells.{TrueProduct, MatrixGains}
use Rattle.bool_matrix.proofs.matrix.Matrix.multiplied.Given as goal

abbrev pub invariant-loop-left : goal.invariant-loop-left
invariant-loop-left l = record {
  extends : Extends l.fn.circuit l.circuit;
  gains : MatrixGains l.fn.circuit l.circuit l.initial.out l.out (λ inputs. SomeGives (take l.left-index l.left-items) (λ left t. SomeGives l.other.entries (TrueProduct l.fn.circuit inputs left) t)) (SomeGives (take l.left-index l.left-items) (λ left t. SomeGives l.other.entries (λ r u. u ≡ left.tuple ++ r.tuple) t));
  size : size l.circuit ≤ size l.fn.circuit + l.left-index * (2 * length l.other.entries);
}
