use Rattle.rel_formula.proofs.Renamed.{instance_moved}
use Rattle.rel_formula.proofs.laws.renaming_keeps_instances.Goals as goal

pub returns : goal.returns
returns c = λ p f g well is keeps. instance_moved p f g is.there is.back keeps
