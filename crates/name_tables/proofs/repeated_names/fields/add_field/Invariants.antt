use Rattle.std.proofs.Common.{List, flat_map, take, ◌++◌}
use Rattle.named_model.specs.Faults as faults
use Rattle.named_model.specs.Faults.{Child, Stated}
use Rattle.name_tables.specs.Repeats.Coded.{AreSpaces, IsReading, fields_under}
use Rattle.name_tables.proofs.repeated_names.fields.add_field.Given as goal

abbrev pub invariant-loop-name : goal.invariant-loop-name
invariant-loop-name l =
    (cs : List Child) (before : List Stated) (ts : List faults.Space) → IsReading cs l.fn.reading before → AreSpaces l.fn.reading.words l.spaces ts
    → (IsReading cs l.reading (before ++ flat_map (fields_under ts) (take l.name-index l.field.names.items))) × (AreSpaces l.reading.words l.spaces ts)
