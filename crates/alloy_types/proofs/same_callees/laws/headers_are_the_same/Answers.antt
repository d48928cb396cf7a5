use Rattle.alloy_types.proofs.SameCalls.Callees.{headers_same}
use Rattle.alloy_types.proofs.same_callees.laws.headers_are_the_same.Goals as goal

pub returns : goal.returns
returns c = headers_same
