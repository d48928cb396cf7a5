use Rattle.named_model.specs.View.{field_view}
use Rattle.overload_resolution.specs.Scopes.Declaring.{declared_by}
use Rattle.alloy_types.proofs.Calls.OutcomeLemmas.{field_typed}
use Rattle.alloy_types.proofs.known_callees.fields.type_of_field.Goals as goal

pub returns-clause-value : goal.returns-clause-value
returns-clause-value c =
    field_typed (declared_by c.args.setting.now) (field_view c.args.field.now) c.in_ok-whole.whole c.in_ok-owner.owner c.in_ok-bound.bound c.top_over-top.result c.in_ok-whole.ensures
    c.top_over-top.ensures c.in_ok-owner.ensures c.args.scope.now.locals c.requires.locals c.in_ok-bound.ensures.value
