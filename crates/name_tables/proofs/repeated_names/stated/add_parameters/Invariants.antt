use Rattle.std.proofs.Common.{List, map, take, ◌++◌}
use Rattle.alloy_syntax.specs.View.{declaration_view}
use Rattle.named_model.specs.Declarations.{parameter_names}
use Rattle.named_model.specs.Faults.{Child, Stated, stated, parameters}
use Rattle.name_tables.specs.Repeats.Coded.{IsReading}
use Rattle.name_tables.proofs.repeated_names.stated.add_parameters.Given as goal

abbrev pub invariant-loop-declaration : goal.invariant-loop-declaration
invariant-loop-declaration l =
    (cs : List Child) (before : List Stated) → IsReading cs l.fn.reading before
    → IsReading cs l.reading (before ++ stated (parameters l.number) (parameter_names (map declaration_view (take l.declaration-index l.declarations))))
