use Rattle.rel_formula.proofs.Images.{has_image}
use Rattle.rel_formula.proofs.laws.renaming_has_images.Goals as goal

pub returns : goal.returns
returns c = λ p f g is keeps s scenario. has_image p f g is.back keeps s scenario.cells
