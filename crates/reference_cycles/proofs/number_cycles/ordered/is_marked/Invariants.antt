use Rattle.std.proofs.Common.{take}
use Rattle.reference_cycles.specs.Cycles.Orders.{IsMarked}
use Rattle.reference_cycles.proofs.number_cycles.ordered.is_marked.Given as goal

abbrev pub invariant-loop-number : goal.invariant-loop-number
invariant-loop-number l = IsMarked l.marks (take l.number-index l.row)
