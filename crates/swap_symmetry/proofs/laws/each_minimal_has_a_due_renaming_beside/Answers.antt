use Rattle.swap_symmetry.proofs.Descent.{due_beside}
use Rattle.swap_symmetry.proofs.laws.each_minimal_has_a_due_renaming_beside.Goals as goal

pub returns : goal.returns
returns c = due_beside
