use Rattle.refutation_check.proofs.Renumbered.{chain_renumbered}
use Rattle.refutation_check.proofs.laws.chains_are_renumbered.Goals as goal

pub returns : goal.returns
returns c = chain_renumbered
