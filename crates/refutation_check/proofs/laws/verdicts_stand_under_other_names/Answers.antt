use Rattle.refutation_check.proofs.Renamed.{fits_there}
use Rattle.refutation_check.proofs.laws.verdicts_stand_under_other_names.Goals as goal

pub returns : goal.returns
returns c = λ name clauses log verdict apart fits. fits_there name apart clauses log verdict fits
