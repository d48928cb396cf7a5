use Rattle.std.proofs.Common.{take, sum_by, ◌≤◌, ◌+◌, ◌*◌}
use Rattle.tuple_core.specs.Operators.{JoinsTo}
use Rattle.tuple_core.specs.Gains.{SomeGives}
use Rattle.bool_circuit.specs.Network.{size}
use Rattle.bool_circuit.specs.Value.{Extends}
use Rattle.bool_matrix.specs.Cells.{TrueJoin, MatrixGains}
use Rattle.bool_matrix.specs.Terms.{joining}
use Rattle.bool_matrix.proofs.matrix.Matrix.joined.Given as goal

abbrev pub invariant-loop-left : goal.invariant-loop-left
invariant-loop-left l = record {
  extends : Extends l.fn.circuit l.circuit;
  gains : MatrixGains l.fn.circuit l.circuit l.initial.out l.out (λ inputs. SomeGives (take l.left-index l.left-items) (λ left t. SomeGives l.other.entries (TrueJoin l.fn.circuit inputs left) t)) (SomeGives (take l.left-index l.left-items) (λ left t. SomeGives l.other.entries (λ r. JoinsTo left.tuple r.tuple) t));
  size : size l.circuit ≤ size l.fn.circuit + 2 * sum_by (λ left. sum_by (λ r. joining left.tuple r.tuple) l.other.entries) (take l.left-index l.left-items);
}
