use Rattle.alloy_lex.proofs.Readings.{tokens_read}
use Rattle.alloy_lex.proofs.UniqueReadings.{read_tokens}
use Rattle.alloy_lex.proofs.laws.tokens_are_the_reading.Goals as goal

pub returns : goal.returns
returns c = record { read = tokens_read; only = read_tokens }
