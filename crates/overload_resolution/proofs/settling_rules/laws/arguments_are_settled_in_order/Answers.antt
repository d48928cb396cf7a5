use Rattle.overload_resolution.proofs.Settling.OperandTurns.{argument_turn}
use Rattle.overload_resolution.proofs.settling_rules.laws.arguments_are_settled_in_order.Goals as goal

pub returns : goal.returns
returns c = λ d ls x xs. argument_turn d ls x xs
