use Rattle.std.proofs.Common.{◌≡◌, ◌≤◌, ◌+◌, ◌++◌, List, length, take}
use Rattle.tuple_core.specs.Operators.{United}
use Rattle.tuple_core.specs.Gains.{SomeGives}
use Rattle.bool_circuit.specs.Network.{size}
use Rattle.bool_circuit.specs.Value.{Extends}
use Rattle.bool_matrix.specs.declared.entry.Entry.{Entry}
use Rattle.bool_matrix.specs.Cells.{AtEntry, TrueAt, MatrixGains}
use Rattle.bool_matrix.proofs.matrix.Matrix.united.Given as goal

-- some of the other's entries are there, and the rest is to come
abbrev pub invariant-loop-entry : goal.invariant-loop-entry
invariant-loop-entry l = record {
  extends : Extends l.fn.circuit l.circuit;
  taken : (done : List Entry) × (l.other.entries ≡ done ++ l.rest)
      × MatrixGains l.fn.circuit l.circuit l.initial.out l.out (λ inputs. United (SomeGives done (TrueAt l.fn.circuit inputs)) (SomeGives (take l.entry-index l.entry-items) (TrueAt l.fn.circuit inputs))) (United (SomeGives done AtEntry) (SomeGives (take l.entry-index l.entry-items) AtEntry))
      × (size l.circuit ≤ size l.fn.circuit + length done + l.entry-index);
}
