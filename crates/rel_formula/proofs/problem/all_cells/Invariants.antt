use Rattle.std.proofs.Common.{◌≡◌, take}
use Rattle.rel_formula.specs.Bounds.{cells_from}
use Rattle.rel_formula.proofs.problem.all_cells.Given as goal

abbrev pub invariant-loop-number : goal.invariant-loop-number
invariant-loop-number l = l.cells.items ≡ cells_from 0 (take l.number l.relations)
