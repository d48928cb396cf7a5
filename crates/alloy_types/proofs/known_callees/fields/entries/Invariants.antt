use Rattle.std.proofs.Common.{◌≡◌, map, take}
use Rattle.named_model.specs.View.{field_view}
use Rattle.overload_resolution.specs.Scopes.Declaring.{declared_by}
use Rattle.alloy_types.specs.Calls.Fields.{field_entry}
use Rattle.alloy_types.proofs.known_callees.fields.entries.Given as goal

abbrev pub invariant-loop-field : goal.invariant-loop-field
invariant-loop-field l = l.entries ≡ map (field_entry (declared_by l.setting)) (map field_view (take l.field-index l.fields))
