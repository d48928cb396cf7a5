use Rattle.lowering_rules.proofs.FormedProblems.{is_problem}
use Rattle.lowering_rules.proofs.laws.problems_are_formed.Goals as goal

pub returns : goal.returns
returns c = is_problem
