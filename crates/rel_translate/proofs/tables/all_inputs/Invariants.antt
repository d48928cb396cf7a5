use Rattle.std.proofs.Common.{◌≡◌, ◌≤◌, ◌<◌, ◌+◌, ℕ, length, get_or}
use Rattle.bool_circuit.specs.Network.{size}
use Rattle.bool_circuit.specs.Value.{Extends, Stands}
use Rattle.rel_translate.proofs.tables.all_inputs.Given as goal

abbrev pub invariant-loop-number : goal.invariant-loop-number
invariant-loop-number l = record {
  extends : Extends l.fn.circuit l.circuit;
  count : length l.nodes.items ≡ l.number;
  each : (n d : ℕ) → n < length l.nodes.items → Stands l.circuit (get_or l.nodes.items n d) (λ s. s n);
  size : size l.circuit ≤ size l.fn.circuit + l.number;
}
