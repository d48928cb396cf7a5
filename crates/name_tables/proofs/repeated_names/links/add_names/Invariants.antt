use Rattle.std.proofs.Common.{ℕ, List, Option, map, take, ◌++◌}
use Rattle.named_model.specs.Faults.{Child}
use Rattle.name_tables.specs.Repeats.Numbered.{IsNumbered, AreLinks, child_of}
use Rattle.name_tables.proofs.repeated_names.links.add_names.Given as goal

abbrev pub invariant-loop-name : goal.invariant-loop-name
invariant-loop-name l =
    (p : Option (List ℕ)) (cs : List Child) → IsNumbered l.fn.words l.parent p → AreLinks l.fn.words l.fn.links.items cs
    → (IsNumbered l.words l.parent p) × (AreLinks l.words l.links.items (cs ++ map (child_of p) (take l.name-index l.names)))
