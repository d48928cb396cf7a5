use Rattle.std.proofs.Common.{◌≡◌, List, take, ◌++◌, Some}
use Rattle.named_model.specs.Names.{number_of}
use Rattle.named_model.specs.Faults as faults
use Rattle.named_model.specs.Faults.{Child, Stated}
use Rattle.name_tables.specs.Repeats.Coded.{AreSpaces, IsReading, fields_under}
use Rattle.name_tables.proofs.repeated_names.fields.add_name.Given as goal

abbrev pub invariant-loop-space : goal.invariant-loop-space
invariant-loop-space l =
    (cs : List Child) (before : List Stated) (ts : List faults.Space) → IsReading cs l.fn.reading before → AreSpaces l.fn.reading.words l.spaces ts
    → (IsReading cs l.reading (before ++ fields_under (take l.space-index ts) l.name)) × (AreSpaces l.reading.words l.spaces ts) × (number_of l.reading.words l.name.text ≡ Some l.word)
