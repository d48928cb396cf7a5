use Rattle.model_types.specs.Models.{declared_in, settled_in}
use Rattle.lowering_rules.proofs.Headers.{has_bodies, settled_rank}
use Rattle.lowering_rules.proofs.Sound.{part_right}
use Rattle.lowering_rules.proofs.laws.parts_are_well_formed.Goals as goal

pub returns : goal.returns
returns c = λ m rank types is ns relations. part_right ns (declared_in m) (settled_in m) rank relations (has_bodies m rank is types) (settled_rank m rank is types)
