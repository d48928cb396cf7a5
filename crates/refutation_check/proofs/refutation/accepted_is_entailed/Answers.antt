use Rattle.refutation_check.proofs.Entailment.{each_entailed, no_valuation}
use Rattle.refutation_check.proofs.refutation.accepted_is_entailed.Goals as goal

pub returns-clause-entailed : goal.returns-clause-entailed
returns-clause-entailed c = each_entailed

pub returns-clause-refuted : goal.returns-clause-refuted
returns-clause-refuted c = no_valuation
