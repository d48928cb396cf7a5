use Rattle.std.proofs.Common.{All, sym, subst}
use Rattle.named_model.specs.Model.{FieldTree, NamedTree}
use Rattle.named_model.specs.Declarations.{named_of}
use Rattle.rel_lower.specs.Bounding.Typed.{HasLists}
use Rattle.rel_lower.proofs.Bounding.TypedBounds.{fields_typed}
use Rattle.rel_lower.proofs.field_bounds.laws.typed_fields_have_lists.Goals as goal

pub returns : goal.returns
returns c = λ m is.
    let typed = c.models_without_faults_are_typed.ensures in
    subst (λ (n : NamedTree). All (λ (f : FieldTree). HasLists n.signatures f.bound) n.fields) (sym is.settled)
    (fields_typed (named_of is.tree) (typed.references is.tree) (typed.types is.tree is.types))
