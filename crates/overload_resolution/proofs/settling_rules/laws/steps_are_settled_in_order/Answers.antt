use Rattle.overload_resolution.proofs.Settling.OperandTurns.{step_turn}
use Rattle.overload_resolution.proofs.settling_rules.laws.steps_are_settled_in_order.Goals as goal

pub returns : goal.returns
returns c = λ d ls left k a s rest. step_turn d ls left k a s rest
