use Rattle.std.proofs.Common.{◌≡◌, ◌<◌, All, length, take}
use Rattle.tuple_core.specs.Gains.{Gains, SomeGives}
use Rattle.bool_circuit.specs.Network.{Network}
use Rattle.bool_matrix.specs.Cells.{IsOf, AtEntry, TrueAt, ThereIn, MatrixGains}
use Rattle.rel_translate.proofs.tables.put_all.Given as goal

abbrev pub invariant-loop-entry : goal.invariant-loop-entry
invariant-loop-entry l = record {
  arity : l.out.arity ≡ l.fn.out.arity;
  there : Gains (ThereIn l.fn.out) (ThereIn l.out) (SomeGives (take l.entry-index l.entries) AtEntry);
  gains : (network : Network) → IsOf network l.fn.out → All (λ e. e.node < length network.shapes) l.entries → MatrixGains network network l.fn.out l.out (λ s. SomeGives (take l.entry-index l.entries) (TrueAt network s)) (SomeGives (take l.entry-index l.entries) AtEntry);
}
