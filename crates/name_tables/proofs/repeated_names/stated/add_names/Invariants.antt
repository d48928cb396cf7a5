use Rattle.std.proofs.Common.{ℕ, List, take, ◌++◌}
use Rattle.named_model.specs.Faults as faults
use Rattle.named_model.specs.Faults.{Child, Stated, stated}
use Rattle.name_tables.specs.Repeats.Coded.{IsSpace, IsReading}
use Rattle.name_tables.proofs.repeated_names.stated.add_names.Given as goal

abbrev pub invariant-loop-name : goal.invariant-loop-name
invariant-loop-name l =
    (s : faults.Space) → ((ws : List (List ℕ)) → IsSpace ws l.space s) → (cs : List Child) (before : List Stated) → IsReading cs l.fn.reading before
    → IsReading cs l.reading (before ++ stated s (take l.name-index l.names))
