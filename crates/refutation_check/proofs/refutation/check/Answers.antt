use Rattle.refutation_check.specs.declared.refutation.Verdict.TheVariants.{Accepted, Refused, NoEmptyClause}
use Rattle.refutation_check.proofs.Verdicts.{verdict_exactly}
use Rattle.refutation_check.proofs.refutation.check.Goals as goal

pub returns-clause-accepted : goal.returns-clause-accepted
returns-clause-accepted c = verdict_exactly _ _ _ Accepted c.verdict_in.ensures.fits

pub returns-clause-refused : goal.returns-clause-refused
returns-clause-refused c = λ step hint. verdict_exactly _ _ _ (Refused step hint) c.verdict_in.ensures.fits

pub returns-clause-no_empty_clause : goal.returns-clause-no_empty_clause
returns-clause-no_empty_clause c = verdict_exactly _ _ _ NoEmptyClause c.verdict_in.ensures.fits
