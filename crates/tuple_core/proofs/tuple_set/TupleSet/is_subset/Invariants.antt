use Rattle.std.proofs.Common.{take, All, Contains}
use Rattle.tuple_core.proofs.tuple_set.TupleSet.is_subset.Given as goal

abbrev pub invariant-loop-row : goal.invariant-loop-row
invariant-loop-row l = All (Contains l.other.rows) (take l.row-index l.row-items)
