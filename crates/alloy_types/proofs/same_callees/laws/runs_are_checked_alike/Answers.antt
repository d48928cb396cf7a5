use Rattle.alloy_types.proofs.SameCalls.Callees.{runs_same}
use Rattle.alloy_types.proofs.same_callees.laws.runs_are_checked_alike.Goals as goal

pub returns : goal.returns
returns c = runs_same
