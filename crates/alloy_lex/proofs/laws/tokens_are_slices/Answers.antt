use Rattle.alloy_lex.proofs.Slices.{tokens_slices}
use Rattle.alloy_lex.proofs.laws.tokens_are_slices.Goals as goal

pub returns : goal.returns
returns c = tokens_slices
