use Rattle.std.proofs.Common.{List, map, take}
use Rattle.named_model.specs.Faults.{Child, Stated}
use Rattle.name_tables.specs.Repeats.Coded.{AreSpaces, IsReading, space_of}
use Rattle.name_tables.proofs.repeated_names.fields.spaces.Given as goal

abbrev pub invariant-loop-owner : goal.invariant-loop-owner
invariant-loop-owner l =
    (cs : List Child) (before : List Stated) → IsReading cs l.fn.reading before
    → (IsReading cs l.reading before) × (AreSpaces l.reading.words l.spaces.items (map (space_of cs) (take l.owner-index l.owners)))
