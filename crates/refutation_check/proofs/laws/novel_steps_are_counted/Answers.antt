use Rattle.refutation_check.proofs.Novelty.{novel_exact, novel_at_most, novel_all, novel_but_last}
use Rattle.refutation_check.proofs.laws.novel_steps_are_counted.Goals as goal

pub returns-clause-exact : goal.returns-clause-exact
returns-clause-exact c = novel_exact

pub returns-clause-at_most : goal.returns-clause-at_most
returns-clause-at_most c = novel_at_most

pub returns-clause-all : goal.returns-clause-all
returns-clause-all c = novel_all

pub returns-clause-but_last : goal.returns-clause-but_last
returns-clause-but_last c = novel_but_last
