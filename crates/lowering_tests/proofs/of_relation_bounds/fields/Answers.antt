use Rattle.std.proofs.Common.{List, [], ◌∷◌, All, map, sym, subst}
use Rattle.std.proofs.lemmas.List.Elements.{All-nil, All-cons}
use Rattle.named_model.specs.declared.named.Field.{Field}
use Rattle.named_model.specs.Model.{FieldTree}
use Rattle.named_model.specs.View.{field_view}
use Rattle.rel_lower.specs.Bounding.Typed.{HasLists}
use Rattle.lowering_tests.proofs.of_relation_bounds.fields.Goals as goal

pub returns : goal.returns
returns c = λ xs.
    subst (λ (fs : List Field). All (λ (f : FieldTree). HasLists xs f.bound) (map field_view fs)) (sym c.in_ok-vec.ensures.items)
    (All-cons (λ (f : FieldTree). HasLists xs f.bound) (field_view c.in_ok-field.field) [] (c.in_ok-field.ensures xs) (All-nil (λ (f : FieldTree). HasLists xs f.bound)))
