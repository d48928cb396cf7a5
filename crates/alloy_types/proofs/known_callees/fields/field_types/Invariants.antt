use Rattle.std.proofs.Common.{◌≡◌, [], map, take}
use Rattle.named_model.specs.View.{field_view}
use Rattle.overload_resolution.specs.Expressions.Types.{AreEachSame}
use Rattle.overload_resolution.specs.Scopes.Declaring.{declared_by}
use Rattle.alloy_types.specs.Calls.Fields.{field_type}
use Rattle.alloy_types.proofs.known_callees.fields.field_types.Given as goal

abbrev pub invariant-loop-field : goal.invariant-loop-field
invariant-loop-field l = record {
  types : AreEachSame l.types.items (map (field_type (declared_by l.setting)) (map field_view (take l.field-index l.fields)));
  locals : l.scope.locals ≡ [];
}
