use Rattle.std.proofs.Common.{List, sym, subst, refl}
use Rattle.named_model.specs.View.{phrases_view}
use Rattle.model_types.specs.Bounding as bounding
use Rattle.model_types.specs.Bounding.{Lists}
use Rattle.model_types.specs.Typing.{types_in, local_types}
use Rattle.model_types.specs.Bounds.Same.{AreSame}
use Rattle.overload_resolution.specs.Expressions.Types.{AreEachSame}
use Rattle.overload_resolution.proofs.Expressions.Each.{each_refl}
use Rattle.overload_resolution.specs.Scopes.Declaring.{declared_by}
use Rattle.overload_resolution.proofs.Scopes.Standing.{stands, where_they_stand}
use Rattle.overload_resolution.proofs.typed_scopes.types.in_brackets.Goals as goal

pub returns-clause-value : goal.returns-clause-value
returns-clause-value c =
    let s = c.args.setting.now in
    let locals = c.args.scope.now.locals in
    let ys = bounding.types_of (types_in (declared_by s)) (local_types locals) (phrases_view c.args.arguments.now) in
    where_they_stand c.brackets_type.result
    (λ found. (x : Lists) (zs : List Lists) → AreSame c.args.a x → AreEachSame c.deref.result.now zs → AreSame found (bounding.brackets_type x zs))
    (λ found. AreSame found (bounding.brackets_type c.args.a ys))
    (λ found h. h c.args.a ys (λ t. refl)
    (subst (λ xs. AreEachSame xs ys) (sym c.deref.ensures.value)
    (c.in_ok-others.ensures (types_in (declared_by s)) (local_types locals) (stands s c.requires) (subst (λ xs. AreEachSame xs (local_types locals)) (sym c.types-locals.ensures) (each_refl (local_types locals))))))
    c.brackets_type.ensures
