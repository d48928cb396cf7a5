use Rattle.swap_symmetry.proofs.SwapLemmas.{settled_by_images}
use Rattle.swap_symmetry.proofs.laws.settled_is_by_images.Goals as goal

pub returns : goal.returns
returns c = λ p well symmetric s scenario. settled_by_images p well symmetric s scenario.cells
