use Rattle.std.proofs.Common.{◌≡◌, ◌∷◌, [], ◌∙◌, ap, subst, List}
use Rattle.tuple_core.specs.Gains.{SomeGives}
use Rattle.tuple_core.specs.Rows.{IsSetOf}
use Rattle.tuple_core.specs.Operators.{Pred}
use Rattle.rel_formula.specs.declared.problem.Relation.{Relation}
use Rattle.rel_formula.specs.Bounds.{cells_from}
use Rattle.rel_formula.proofs.problem.Problem.of.Goals as goal

pub invariant_of-result : goal.invariant_of-result
invariant_of-result c =
    let relations = c.args.relations.items in
    let Gives : Relation → Pred = λ relation. SomeGives relation.upper.rows (λ row. SomeGives row (λ a t. t ≡ a ∷ [])) in
    let found = subst (λ (rs : List Relation). IsSetOf c.in_ok-atoms.atoms 1 (SomeGives rs Gives)) c.deref-2.ensures.value c.in_ok-atoms.ensures in
    record {
      well = c.requires;
      cells_are = c.in_ok-cells.ensures ∙ ap (cells_from 0) c.deref.ensures.value;
      atoms_are = record {
        arity_is = found.arity_is;
        just = λ t. (
          λ h. let g = (found.just t).0 h in (g.2.2.0, (g.0, g.1, (g.2.0, g.2.1, g.2.2.1)), g.2.2.2),
          λ u. (found.just t).1 (u.1.0, u.1.1, (u.1.2.0, u.1.2.1, (u.0, u.1.2.2, u.2))),
        );
      };
    }
