use Rattle.std.proofs.Common.{◌≡◌, length, take}
use Rattle.reference_cycles.specs.Cycles.Walks.{rows_of}
use Rattle.reference_cycles.specs.Cycles.Orders.{StandBefore, AreMarked}
use Rattle.reference_cycles.proofs.number_cycles.ordered.is_order.Given as goal

abbrev pub invariant-loop-number : goal.invariant-loop-number
invariant-loop-number l = record {
  long : length l.marks.items ≡ length l.rows;
  marked : AreMarked (take l.number-index l.order) l.marks.items;
  before : StandBefore (rows_of l.rows) l.number-index l.order;
}
