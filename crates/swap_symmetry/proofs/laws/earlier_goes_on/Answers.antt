use Rattle.swap_symmetry.proofs.ScenarioOrders.{goes_on}
use Rattle.swap_symmetry.proofs.laws.earlier_goes_on.Goals as goal

pub returns : goal.returns
returns c = goes_on
