use Rattle.alloy_types.proofs.SameCalls.Callees.{bodies_same}
use Rattle.alloy_types.proofs.same_callees.laws.bodies_are_the_same.Goals as goal

pub returns : goal.returns
returns c = bodies_same
