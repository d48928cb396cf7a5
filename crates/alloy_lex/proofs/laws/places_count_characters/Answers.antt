use Rattle.alloy_lex.proofs.Characters.{tokens_placed}
use Rattle.alloy_lex.proofs.laws.places_count_characters.Goals as goal

pub returns : goal.returns
returns c = tokens_placed
