use Rattle.std.proofs.Common.{[], ap, refl}
use Rattle.std.specs.List.{list_any}
use Rattle.alloy_syntax.specs.declared.tree.Operator.TheVariants as operator
use Rattle.model_types.specs.Bounding.{Lists, operator_type}
use Rattle.model_types.specs.Bounds.Same.{AreSame}
use Rattle.overload_resolution.proofs.Scopes.Standing.{where_they_stand}
use Rattle.overload_resolution.proofs.typed_scopes.types.copied.Goals as goal

pub returns-clause-value : goal.returns-clause-value
returns-clause-value c =
    where_they_stand c.operator_type.result
    (λ t. (x y : Lists) → AreSame c.new.result x → AreSame c.args.a.now y → AreSame t (operator_type operator.Union x y))
    (λ t. AreSame t c.args.a.now)
    (λ t h. h [] c.args.a.now (λ q. ap (list_any q) c.new.ensures) (λ q. refl))
    c.operator_type.ensures
