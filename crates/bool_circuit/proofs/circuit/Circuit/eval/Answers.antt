use Rattle.std.proofs.Common.{ℕ, List, [], get_or, arith, ap, ◌∙◌}
use Rattle.bool_circuit.specs.declared.shape.Shape.{Shape}
use Rattle.bool_circuit.specs.Value.{place, values_after}
use Rattle.bool_circuit.proofs.Values.{value_at-place, length-values}
use Rattle.bool_circuit.proofs.circuit.Circuit.eval.Goals as goal

pub index-requires : goal.index-requires
index-requires c =
    let shapes = c.as_slice.ensures.keys ∙ ap (λ n. n.shapes) c.self.view_is in
    let values = c.in_ok-values.ensures ∙ ap (λ (xs : List Shape). values_after (place c.args.inputs.now) [] xs) shapes in
    omega (arith, length-values c.args.self.now (place c.args.inputs.now) c.in_ok-values.values.items values)

pub returns : goal.returns
returns c =
    let shapes = c.as_slice.ensures.keys ∙ ap (λ n. n.shapes) c.self.view_is in
    let values = c.in_ok-values.ensures ∙ ap (λ (xs : List Shape). values_after (place c.args.inputs.now) [] xs) shapes in
    value_at-place c.args.self.now c.args.node (place c.args.inputs.now) c.in_ok-values.values.items values c.index.result.now (c.index.ensures ∙ ap (λ (n : ℕ). get_or c.in_ok-values.values.items n c.index.result.now) c.place.ensures) c.requires.node
