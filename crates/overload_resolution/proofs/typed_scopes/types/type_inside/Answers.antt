use Rattle.std.proofs.Common.{List, reverse, sym, subst}
use Rattle.named_model.specs.View.{phrase_view}
use Rattle.model_types.specs.Bounding.{Lists, Types, type_of}
use Rattle.model_types.specs.Typing.{types_in, type_in, local_types}
use Rattle.model_types.specs.Bounds.Same.{AreSame}
use Rattle.overload_resolution.specs.Expressions.Types.{AreEachSame, StandFor}
use Rattle.overload_resolution.proofs.Expressions.Each.{each_refl}
use Rattle.overload_resolution.specs.Scopes.Declaring.{declared_by}
use Rattle.overload_resolution.proofs.Scopes.Standing.{stands, where_they_stand}
use Rattle.overload_resolution.proofs.typed_scopes.types.type_inside.Goals as goal

pub returns-clause-value : goal.returns-clause-value
returns-clause-value c =
    let s = c.args.setting.now in
    let locals = c.args.scope.now.locals in
    let x = phrase_view c.args.phrase.now in
    where_they_stand c.type_of.result
    (λ found. (t : Types) (ls : List Lists) → StandFor s.types s.calls t → AreEachSame (reverse c.types-locals.result.now) ls → AreSame found (type_of t ls x))
    (λ found. AreSame found (type_in (declared_by s) locals x))
    (λ found h. h (types_in (declared_by s)) (local_types locals) (stands s c.requires) (subst (λ xs. AreEachSame xs (local_types locals)) (sym c.types-locals.ensures) (each_refl (local_types locals))))
    c.type_of.ensures
