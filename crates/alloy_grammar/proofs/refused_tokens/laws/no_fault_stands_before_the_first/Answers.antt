use Rattle.alloy_grammar.proofs.Refusals.ModelsLasting.{first_of_all}
use Rattle.alloy_grammar.proofs.refused_tokens.laws.no_fault_stands_before_the_first.Goals as goal

pub returns : goal.returns
returns c limit more ts stop other less e f = first_of_all limit more less ts stop other e f
