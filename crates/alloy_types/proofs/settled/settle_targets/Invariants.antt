use Rattle.std.proofs.Common.{map}
use Rattle.named_model.specs.View.{command_view, target_view}
use Rattle.alloy_types.specs.Outcomes.{outcome_view, with_target}
use Rattle.alloy_types.proofs.WithOutcomes.{AreSettled}
use Rattle.alloy_types.proofs.settled.settle_targets.Given as goal

abbrev pub invariant-loop-outcome : goal.invariant-loop-outcome
invariant-loop-outcome l =
    AreSettled with_target (map command_view l.fn.commands.items) (map (outcome_view target_view) l.fn.outcomes.items) (map (outcome_view target_view) l.outcomes.items) (map command_view l.commands.items)

abbrev pub decreases-loop-outcome : goal.decreases-loop-outcome
decreases-loop-outcome l = goal.left-loop-outcome l
