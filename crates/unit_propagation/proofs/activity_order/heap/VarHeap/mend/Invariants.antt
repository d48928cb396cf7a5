use Rattle.unit_propagation.proofs.Activity.Steps.{Mends}
use Rattle.unit_propagation.proofs.activity_order.heap.VarHeap.mend.Given as goal

abbrev pub invariant-loop-at : goal.invariant-loop-at
invariant-loop-at l = Mends l.activities l.fn.self l.self l.at
