use Rattle.alloy_lex.specs.Tokens.{origin}
use Rattle.alloy_syntax.specs.ParserTokens.{seen_all}
use Rattle.lowering_laws.proofs.Orderings.PlainNames.{model_plain, tokens_plain}
use Rattle.lowering_laws.proofs.plain_names.texts_have_plain_names.Goals as goal

pub returns : goal.returns
returns c = λ text ts t lexed read. model_plain (seen_all ts) t (c.what_is_read_is_a_text.ensures.spelled (seen_all ts) t read) (tokens_plain origin text ts (c.tokens_are_the_reading.ensures.read text ts lexed))
