use Rattle.rel_formula.proofs.Renamed.{minimal_moved}
use Rattle.rel_formula.proofs.laws.renaming_keeps_minimal.Goals as goal

pub returns : goal.returns
returns c = λ p f g well is keeps. minimal_moved p f g well is.there is.back keeps
