use Rattle.overload_resolution.proofs.Settling.OperandTurns.{value_turn}
use Rattle.overload_resolution.proofs.settling_rules.laws.values_are_settled_in_order.Goals as goal

pub returns : goal.returns
returns c = λ d ls x xs. value_turn d ls x xs
