use Rattle.swap_symmetry.proofs.SwapLemmas.{settled_beside_nothing}
use Rattle.swap_symmetry.proofs.laws.settled_is_beside_nothing.Goals as goal

pub returns : goal.returns
returns c = settled_beside_nothing
