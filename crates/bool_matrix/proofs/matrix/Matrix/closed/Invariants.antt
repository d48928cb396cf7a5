use Rattle.std.proofs.Common.{◌≤◌, ◌+◌, ◌*◌, List, length, Contains}
use Rattle.tuple_core.specs.declared.atom.Atom.{Atom}
use Rattle.tuple_core.specs.Operators.{Closed}
use Rattle.bool_circuit.specs.Network.{size}
use Rattle.bool_circuit.specs.Value.{Extends}
use Rattle.bool_matrix.specs.Cells.{ThereIn, TrueIn, IsMatrixOf}
use Rattle.bool_matrix.specs.Closure.{Short, reach}
use Rattle.bool_matrix.specs.Terms.{Meeting}
use Rattle.bool_matrix.proofs.matrix.Matrix.closed.Given as goal

abbrev pub invariant-loop-step : goal.invariant-loop-step
invariant-loop-step l = record {
  extends : Extends l.fn.circuit l.circuit;
  is : IsMatrixOf l.circuit l.walks 2 (λ inputs. Short (TrueIn l.fn.circuit l.self inputs) (reach l.step)) (Short (ThereIn l.self) (reach l.step));
  few : l.initial.left ≤ reach l.step * l.left;
  size : (rows : List (List Atom)) → ((t : List Atom) → Meeting (Closed (ThereIn l.self)) (Closed (ThereIn l.self)) t → Contains rows t) → size l.circuit ≤ size l.fn.circuit + l.step * (2 * length rows);
}
