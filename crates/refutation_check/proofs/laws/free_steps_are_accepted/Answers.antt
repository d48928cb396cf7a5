use Rattle.refutation_check.proofs.Renumbered.{free_of_local}
use Rattle.refutation_check.proofs.laws.free_steps_are_accepted.Goals as goal

pub returns : goal.returns
returns c = free_of_local
