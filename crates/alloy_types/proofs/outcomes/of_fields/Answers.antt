use Rattle.named_model.specs.View.{field_view}
use Rattle.model_types.specs.Models.{field_checked}
use Rattle.overload_resolution.specs.Scopes.Declaring.{declared_by}
use Rattle.alloy_types.proofs.ListedOutcomes.{found_more, outcome_same, found_all}
use Rattle.alloy_types.proofs.outcomes.of_fields.Goals as goal

pub loop-field-preserved : goal.loop-field-preserved
loop-field-preserved c =
    found_more field_view (field_checked (declared_by c.args.setting.now)) c.args.fields.now c.loop-field.field-index c.field-item.result c.loop-field.found.items c.push_outcome.new.found.items c.field_checked-outcome.result c.loop-field-test.true c.field-item.is c.loop-field.invariant c.in_ok-push_outcome.ensures.pushed
    (outcome_same c.field_checked-outcome.result (field_checked (declared_by c.args.setting.now) (field_view c.field-item.result)) c.in_ok-push_outcome.ensures.outcome c.field_checked-outcome.ensures)

pub returns : goal.returns
returns c = found_all field_view (field_checked (declared_by c.args.setting.now)) c.args.fields.now c.loop-field.field-index c.loop-field.found.items c.loop-field-test.false c.loop-field.invariant
