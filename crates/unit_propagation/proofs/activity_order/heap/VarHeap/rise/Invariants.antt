use Rattle.unit_propagation.proofs.Activity.Steps.{Rises}
use Rattle.unit_propagation.proofs.activity_order.heap.VarHeap.rise.Given as goal

abbrev pub invariant-rising : goal.invariant-rising
invariant-rising l = Rises l.activities l.fn.self l.self l.at

abbrev pub decreases-rising : goal.decreases-rising
decreases-rising l = l.at
