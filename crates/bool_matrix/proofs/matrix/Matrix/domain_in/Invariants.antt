use Rattle.std.proofs.Common.{take, ◌≤◌, ◌+◌, ◌*◌, [], ◌∷◌}
use Rattle.tuple_core.specs.declared.atom.Atom.{Atom}
use Rattle.tuple_core.specs.Operators.{BeginsWith}
use Rattle.tuple_core.specs.Gains.{SomeGives}
use Rattle.bool_circuit.specs.Network.{size}
use Rattle.bool_circuit.specs.Value.{Extends}
use Rattle.bool_matrix.specs.Cells.{AtEntry, TrueAt, ThereIn, TrueIn, MatrixGains}
use Rattle.bool_matrix.proofs.matrix.Matrix.domain_in.Given as goal

abbrev pub invariant-loop-entry : goal.invariant-loop-entry
invariant-loop-entry l = record {
  extends : Extends l.fn.circuit l.circuit;
  gains : MatrixGains l.fn.circuit l.circuit l.initial.out l.out (λ inputs. SomeGives (take l.entry-index l.entry-items) (λ e t. TrueAt l.fn.circuit inputs e t × ((x : Atom) × BeginsWith x e.tuple × TrueIn l.fn.circuit l.atoms inputs (x ∷ [])))) (SomeGives (take l.entry-index l.entry-items) (λ e t. AtEntry e t × ((x : Atom) × BeginsWith x e.tuple × ThereIn l.atoms (x ∷ []))));
  size : size l.circuit ≤ size l.fn.circuit + 2 * l.entry-index;
}
