use Rattle.unit_propagation.proofs.Activity.Steps.{unmoved, rise_once}
use Rattle.unit_propagation.proofs.Activity.Ranks.{rising_end}
use Rattle.unit_propagation.proofs.activity_order.heap.VarHeap.rise.Goals as goal

pub rising-init : goal.rising-init
rising-init c = record { same = unmoved _ c.requires.indexed; in_range = c.requires.in_range; rising = c.requires.rising }

pub rising-preserved : goal.rising-preserved
rising-preserved c = rise_once _ _ _ _ _ _ c.rising.invariant c.in-Some.ensures.0 c.in-Some.ensures.1 c.swap.ensures

pub returns-clause-ranked : goal.returns-clause-ranked
returns-clause-ranked c = rising_end _ _ _ c.rising.invariant.rising c.in_default.ensures
