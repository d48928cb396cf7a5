use Rattle.alloy_grammar.proofs.Refusals.Models.{goes_nowhere}
use Rattle.alloy_grammar.proofs.refused_tokens.laws.no_text_goes_on.Goals as goal

pub returns : goal.returns
returns c strict limit before rest e on = goes_nowhere strict limit before rest e on
