use Rattle.lowering_rules.proofs.FirstFaults.{first_once}
use Rattle.lowering_rules.proofs.laws.refusals_are_one.Goals as goal

pub returns : goal.returns
returns c = first_once
