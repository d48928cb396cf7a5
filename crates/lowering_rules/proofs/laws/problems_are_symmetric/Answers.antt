use Rattle.lowering_rules.proofs.Symmetric.{symmetric}
use Rattle.lowering_rules.proofs.laws.problems_are_symmetric.Goals as goal

pub returns : goal.returns
returns c = symmetric
