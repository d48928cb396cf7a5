use Rattle.std.proofs.Common.{rules, ◌≡◌, true, refl, sym, ap, ◌∙◌, subst, Some}
use Rattle.bool_circuit.specs.declared.shape.Shape.{Shape}
use Rattle.bool_circuit.specs.Network.{IsInOrder}
use Rattle.bool_circuit.specs.contracts.shape.ShapePartialEq.TheImpl.{eq-value}
use Rattle.bool_circuit.proofs.MadeNodes.{Makes-inserted, Extends-made, Stands-made, one_more}
use Rattle.bool_circuit.proofs.Sizes.{size-made}
use Rattle.bool_circuit.proofs.circuit.Circuit.add.Goals as goal

same_shape : (a b : Shape) → eq-value.it a b ≡ true → a ≡ b
same_shape a b h = search rules

is_itself : (a : Shape) → eq-value.it a a ≡ true
is_itself a = search rules

pub returns-clause-made : goal.returns-clause-made
returns-clause-made c =
    let found = c.in_ok-index.ensures.stored in
    let is_it : c.args.shape ≡ found.0 = same_shape c.args.shape found.0 found.2 in
    rw (c.new.ensures, ← c.self.view_is)
    (Makes-inserted eq-value.it is_itself _ _ c.args.shape c.in_ok-index.index refl c.in_ok-index.ensures.keys (found.1 ∙ ap Some (sym is_it)))

pub returns-clause-extends : goal.returns-clause-extends
returns-clause-extends c = Extends-made _ _ _ _ (returns-clause-made c)

pub returns-clause-value : goal.returns-clause-value
returns-clause-value c = Stands-made _ _ _ _ (returns-clause-made c) (subst IsInOrder c.self.view_is c.self.invariant.1) c.requires.before

pub returns-clause-size : goal.returns-clause-size
returns-clause-size c = size-made _ _ _ _ (returns-clause-made c)

pub returns-clause-one : goal.returns-clause-one
returns-clause-one c = one_more _ _ _ _ (returns-clause-made c)
