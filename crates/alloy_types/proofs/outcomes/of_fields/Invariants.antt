use Rattle.std.proofs.Common.{◌≡◌, map, take}
use Rattle.named_model.specs.View.{field_view}
use Rattle.model_types.specs.Models.{field_checked}
use Rattle.overload_resolution.specs.Scopes.Declaring.{declared_by}
use Rattle.alloy_types.proofs.outcomes.of_fields.Given as goal

abbrev pub invariant-loop-field : goal.invariant-loop-field
invariant-loop-field l = l.found.items ≡ map (field_checked (declared_by l.setting)) (map field_view (take l.field-index l.fields))
