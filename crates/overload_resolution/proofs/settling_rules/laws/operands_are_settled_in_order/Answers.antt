use Rattle.overload_resolution.proofs.Settling.OperandTurns.{link_turn}
use Rattle.overload_resolution.proofs.settling_rules.laws.operands_are_settled_in_order.Goals as goal

pub returns : goal.returns
returns c = λ d ls left k a o p x rest. link_turn d ls left k a o p x rest
