use Rattle.rel_lower.proofs.Bounding.Sizes.{few_sizes}
use Rattle.rel_lower.proofs.field_bounds.laws.sizes_are_few.Goals as goal

pub returns : goal.returns
returns c = few_sizes
