use Rattle.std.proofs.Common.{take, Contains}
use Rattle.tuple_core.specs.Rows.{SetGains}
use Rattle.tuple_core.proofs.Steps.{Kept}
use Rattle.tuple_core.proofs.tuple_set.TupleSet.meet.Given as goal

abbrev pub invariant-loop-row : goal.invariant-loop-row
invariant-loop-row l = SetGains l.initial.out l.out (Kept (take l.row-index l.row-items) (Contains l.other.rows))
