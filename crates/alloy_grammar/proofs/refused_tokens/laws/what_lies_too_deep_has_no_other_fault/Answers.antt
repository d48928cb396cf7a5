use Rattle.alloy_grammar.proofs.Refusals.ModelsLasting.{no_other_there}
use Rattle.alloy_grammar.proofs.refused_tokens.laws.what_lies_too_deep_has_no_other_fault.Goals as goal

pub returns : goal.returns
returns c strict limit other ts rest stop e f there = no_other_there strict limit other ts rest stop e f there
