use Rattle.refutation_check.proofs.Renumbered.{pool_and_log, pool_and_refutation}
use Rattle.refutation_check.proofs.laws.lifted_pool_and_log_are_accepted.Goals as goal

pub returns-clause-accepted : goal.returns-clause-accepted
returns-clause-accepted c = pool_and_log

pub returns-clause-refuted : goal.returns-clause-refuted
returns-clause-refuted c = pool_and_refutation
