use Rattle.lowering_rules.proofs.OneProblem.{not_refused}
use Rattle.lowering_rules.proofs.laws.problems_are_not_refused.Goals as goal

pub returns : goal.returns
returns c = λ m n facts p is of k has few f. not_refused m n facts p is of k has few f
