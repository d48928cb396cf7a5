use Rattle.lowering_rules.proofs.OneProblem.{problem_once}
use Rattle.lowering_rules.proofs.laws.problems_are_one.Goals as goal

pub returns : goal.returns
returns c = problem_once
