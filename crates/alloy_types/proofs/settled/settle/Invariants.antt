use Rattle.alloy_types.specs.Outcomes.{the_other}
use Rattle.alloy_types.proofs.WithOutcomes.{AreSettled}
use Rattle.alloy_types.proofs.settled.settle.Given as goal

abbrev pub invariant-loop-outcome : goal.invariant-loop-outcome
invariant-loop-outcome g l = AreSettled the_other l.fn.things.items l.fn.outcomes.items l.outcomes.items l.things.items

abbrev pub decreases-loop-outcome : goal.decreases-loop-outcome
decreases-loop-outcome g l = goal.left-loop-outcome g l
