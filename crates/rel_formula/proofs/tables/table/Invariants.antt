use Rattle.std.proofs.Common.{◌≡◌, take, Some, slice_get}
use Rattle.tuple_core.specs.Gains.{SomeGives}
use Rattle.tuple_core.specs.Rows.{SetGains}
use Rattle.rel_formula.specs.Bounds.{cell_of, cells_of}
use Rattle.rel_formula.proofs.tables.table.Given as goal

abbrev pub invariant-loop-chosen : goal.invariant-loop-chosen
invariant-loop-chosen l = SetGains l.fn.relation.lower l.set (SomeGives (take l.chosen-index l.chosen-items) (λ n t. slice_get (cells_of l.fn.problem) n ≡ Some (cell_of l.fn.number t)))
