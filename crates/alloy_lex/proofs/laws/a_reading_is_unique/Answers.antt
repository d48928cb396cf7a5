use Rattle.alloy_lex.proofs.UniqueReadings.{reading_unique}
use Rattle.alloy_lex.proofs.laws.a_reading_is_unique.Goals as goal

pub returns : goal.returns
returns c = reading_unique
