use Rattle.std.proofs.Common.{List, ◌∙◌, get_or, refl, ap, subst}
use Rattle.std.proofs.lemmas.Option.{slice_get_read}
use Rattle.bool_circuit.specs.declared.shape.Shape.{Shape}
use Rattle.bool_circuit.specs.Network.{IsInOrder}
use Rattle.bool_circuit.proofs.Values.{value_at-shape}
use Rattle.bool_circuit.proofs.circuit.Circuit.at.Goals as goal

pub returns-clause-is : goal.returns-clause-is
returns-clause-is c =
    let shapes = c.as_slice.ensures.keys ∙ ap (λ n. n.shapes) c.self.view_is in
    slice_get_read c.args.self.now.shapes _ c.args.i c.index-as_slice-i.result refl c.requires
    (c.index-as_slice-i.is ∙ ap (λ (xs : List Shape). get_or xs c.args.i c.index-as_slice-i.result) shapes)

pub returns-clause-before : goal.returns-clause-before
returns-clause-before c = (subst IsInOrder c.self.view_is c.self.invariant.1) c.args.i _ (returns-clause-is c)

pub returns-clause-value : goal.returns-clause-value
returns-clause-value c = λ inputs. value_at-shape _ _ _ inputs (subst IsInOrder c.self.view_is c.self.invariant.1) (returns-clause-is c)
