use Rattle.named_model.specs.Declarations.{named_of}
use Rattle.lowering_rules.proofs.Paragraphs.{has_types}
use Rattle.lowering_rules.proofs.Ranks.{ranks}
use Rattle.lowering_laws.proofs.Types.Contexts.{values_lie}
use Rattle.lowering_laws.proofs.bounding_types.values_lie_in_types.Goals as goal

pub returns : goal.returns
returns c = λ t names types. let rank = ranks t names in values_lie (named_of t) rank.0 rank.1 (has_types t types)
