use Rattle.std.proofs.Common.{◌≡◌, ◌++◌, take, map, filter, not}
use Rattle.std.specs.List.{list_any}
use Rattle.std.specs.Ordering.{eq_by_cmp}
use Rattle.tuple_core.specs.Order.{tuple_cmp}
use Rattle.rel_formula.specs.Bounds.{cell_of}
use Rattle.rel_formula.proofs.problem.add_cells.Given as goal

abbrev pub invariant-loop-tuple : goal.invariant-loop-tuple
invariant-loop-tuple l = l.cells.items ≡ l.fn.cells.items ++ map (cell_of l.number) (filter (λ t. not (list_any (eq_by_cmp tuple_cmp t) l.fn.relation.lower.rows)) (take l.tuple-index l.tuple-items))
