use Rattle.overload_resolution.proofs.Settling.OperandTurns.{domain_turn}
use Rattle.overload_resolution.proofs.settling_rules.laws.domains_are_settled_in_order.Goals as goal

pub returns : goal.returns
returns c = λ single d ls disjoint n mark x ds. domain_turn d ls single disjoint n mark x ds
