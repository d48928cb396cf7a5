-- The values so far, and then those of the rest, are those of all.
use Rattle.std.proofs.Common.{◌≡◌, [], drop, vec_len}
use Rattle.bool_circuit.specs.Value.{place, values_after}
use Rattle.bool_circuit.proofs.eval.values_of.Given as goal

abbrev pub invariant-loop-shape : goal.invariant-loop-shape
invariant-loop-shape l = record {
  count : vec_len l.values ≡ l.shape-index;
  so_far : values_after (place l.inputs) l.values.items (drop l.shape-index l.shapes) ≡ values_after (place l.inputs) [] l.shapes;
}
