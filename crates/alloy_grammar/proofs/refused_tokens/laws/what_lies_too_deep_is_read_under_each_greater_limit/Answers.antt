use Rattle.alloy_grammar.proofs.Refusals.ModelsLasting.{deeper_behind}
use Rattle.alloy_grammar.proofs.refused_tokens.laws.what_lies_too_deep_is_read_under_each_greater_limit.Goals as goal

pub returns : goal.returns
returns c strict limit more ts rest stop some less e f = deeper_behind strict limit more some less ts rest stop e f
