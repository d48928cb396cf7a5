use Rattle.std.proofs.Common.{arith}
use Rattle.unit_propagation.proofs.Activity.Steps.{unmoved, sink_once}
use Rattle.unit_propagation.proofs.Activity.Ranks.{sinking_start, sinking_end}
use Rattle.unit_propagation.proofs.activity_order.heap.VarHeap.sink.Goals as goal

pub sinking-init : goal.sinking-init
sinking-init c = record { same = unmoved _ c.requires.indexed; low = omega arith; in_range = c.requires.in_range; sinking = sinking_start _ _ _ c.requires.ranked }

pub sinking-preserved : goal.sinking-preserved
sinking-preserved c = sink_once _ _ _ _ _ _ _ c.sinking.invariant c.in-Some.ensures.0 c.in-Some.ensures.1 c.swap.ensures

pub returns-clause-ranked : goal.returns-clause-ranked
returns-clause-ranked c = sinking_end _ _ _ _ c.sinking.invariant.sinking c.in_default.ensures
