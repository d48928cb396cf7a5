use Rattle.std.proofs.Common.{List, map, flat_map, take, ◌++◌}
use Rattle.alloy_syntax.specs.View.{field_view}
use Rattle.named_model.specs.Faults.{Child, Stated, fields_stated}
use Rattle.name_tables.specs.Repeats.Coded.{AreSpaces, IsReading, space_of}
use Rattle.name_tables.proofs.repeated_names.fields.add_fields.Given as goal

abbrev pub invariant-loop-field : goal.invariant-loop-field
invariant-loop-field l =
    (cs : List Child) (before : List Stated) → IsReading cs l.fn.reading before
    → (IsReading cs l.reading (before ++ flat_map (fields_stated cs l.owners) (map field_view (take l.field-index l.fields)))) × (AreSpaces l.reading.words l.spaces.items (map (space_of cs) l.owners))
