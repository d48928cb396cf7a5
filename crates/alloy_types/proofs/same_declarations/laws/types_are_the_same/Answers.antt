use Rattle.alloy_types.proofs.Declarations.Settling.{part_types_same}
use Rattle.alloy_types.proofs.same_declarations.laws.types_are_the_same.Goals as goal

pub returns : goal.returns
returns c = part_types_same
