use Rattle.std.proofs.Common.{refl}
use Rattle.named_model.specs.Texts.{tree_of}
use Rattle.model_sizes.proofs.laws.rows_are_told.Goals as goal

pub returns : goal.returns
unfolding tree_of
returns c = refl
