use Rattle.std.proofs.Common.{take, ◌≤◌, ◌+◌, ◌*◌, length}
use Rattle.tuple_core.specs.declared.atom.Atom.{Atom}
use Rattle.tuple_core.specs.Operators.{BeginsWith, IsFirstIn}
use Rattle.tuple_core.specs.Gains.{SomeGives}
use Rattle.bool_circuit.specs.Network.{size}
use Rattle.bool_circuit.specs.Value.{Extends}
use Rattle.bool_matrix.specs.Cells.{AtEntry, TrueAt, TrueIn, MatrixGains}
use Rattle.bool_matrix.proofs.matrix.Matrix.overridden.Given as goal

abbrev pub invariant-loop-entry : goal.invariant-loop-entry
invariant-loop-entry l = record {
  extends : Extends l.fn.circuit l.circuit;
  gains : MatrixGains l.fn.circuit l.circuit l.initial.out l.out (λ inputs. SomeGives (take l.entry-index l.entry-items) (λ e t. TrueAt l.fn.circuit inputs e t × ((x : Atom) → BeginsWith x e.tuple → IsFirstIn (TrueIn l.fn.circuit l.other inputs) x → ⊥))) (SomeGives (take l.entry-index l.entry-items) AtEntry);
  firsts : Extends l.initial.circuit l.circuit;
  size : size l.circuit ≤ size l.fn.circuit + length l.other.entries + 3 * l.entry-index;
}
