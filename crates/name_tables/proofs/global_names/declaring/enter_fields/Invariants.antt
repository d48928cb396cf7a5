use Rattle.std.proofs.Common.{◌≡◌, drop, map, flat_map}
use Rattle.alloy_syntax.specs.View.{field_view}
use Rattle.named_model.specs.Declarations.{texts}
use Rattle.name_tables.specs.Globals.Grown.{owned, with_fields}
use Rattle.name_tables.proofs.global_names.declaring.enter_fields.Given as goal

abbrev pub invariant-loop-field : goal.invariant-loop-field
invariant-loop-field l = with_fields l.names (texts (flat_map (owned l.owners) (map field_view (drop l.field-index l.fields)))) ≡ with_fields l.fn.names (texts (flat_map (owned l.owners) (map field_view l.fields)))
