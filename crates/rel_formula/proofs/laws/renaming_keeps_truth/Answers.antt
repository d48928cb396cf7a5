use Rattle.std.proofs.Common.{Contains}
use Rattle.rel_formula.specs.Instance.{structure_of}
use Rattle.rel_formula.proofs.RenamedAtoms.{truth_both}
use Rattle.rel_formula.proofs.Renamed.{scenario_moved}
use Rattle.rel_formula.proofs.laws.renaming_keeps_truth.Goals as goal

pub returns : goal.returns
returns c = λ p f g well is keeps s t image env formula. truth_both (structure_of p (Contains s)) (structure_of p (Contains t)) f g (scenario_moved p f g is.there is.back keeps s t image) env formula
