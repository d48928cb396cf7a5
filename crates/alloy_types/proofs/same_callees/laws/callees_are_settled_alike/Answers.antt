use Rattle.alloy_types.proofs.SameCalls.Callees.{callees_same}
use Rattle.alloy_types.proofs.same_callees.laws.callees_are_settled_alike.Goals as goal

pub returns : goal.returns
returns c = callees_same
