use Rattle.std.proofs.Common.{◌≡◌, take}
use Rattle.tuple_core.specs.Gains.{Gains, SomeGives}
use Rattle.bool_circuit.specs.Network.{Network}
use Rattle.bool_matrix.specs.Cells.{IsOf, ThereIn, MatrixGains}
use Rattle.rel_translate.proofs.Doubled.{DoubleAt, TrueDouble}
use Rattle.rel_translate.proofs.leaves.identity.Given as goal

abbrev pub invariant-loop-entry : goal.invariant-loop-entry
invariant-loop-entry l = record {
  arity : l.out.arity ≡ l.initial.out.arity;
  there : Gains (ThereIn l.initial.out) (ThereIn l.out) (SomeGives (take l.entry-index l.entry-items) DoubleAt);
  gains : (network : Network) → IsOf network l.atoms → MatrixGains network network l.initial.out l.out (λ s. SomeGives (take l.entry-index l.entry-items) (TrueDouble network s)) (SomeGives (take l.entry-index l.entry-items) DoubleAt);
}
