use Rattle.named_model.specs.Declarations.{named_of}
use Rattle.lowering_rules.proofs.Paragraphs.{has_types}
use Rattle.lowering_rules.proofs.Ranks.{ranks}
use Rattle.lowering_laws.proofs.Types.Contexts.{variables_lie, parameters_lie, let_names_lie}
use Rattle.lowering_laws.proofs.bounding_types.local_names_lie_in_types.Goals as goal

pub returns-clause-variables : goal.returns-clause-variables
returns-clause-variables c = λ t names types. let rank = ranks t names in variables_lie (named_of t) rank.0 rank.1 (has_types t types)

pub returns-clause-parameters : goal.returns-clause-parameters
returns-clause-parameters c = parameters_lie

pub returns-clause-values : goal.returns-clause-values
returns-clause-values c = λ t names types. let rank = ranks t names in let_names_lie (named_of t) rank.0 rank.1 (has_types t types)
