use Rattle.std.proofs.Common.{◌-◌}
use Rattle.unit_propagation.proofs.Activity.Steps.{Sinks}
use Rattle.unit_propagation.proofs.activity_order.heap.VarHeap.sink.Given as goal

abbrev pub invariant-sinking : goal.invariant-sinking
invariant-sinking l = Sinks l.activities l.fn.self l.self l.from l.at

abbrev pub decreases-sinking : goal.decreases-sinking
decreases-sinking l = l.fn.self.waiting - l.at
