-- What a reader sees of tokens.
use Rattle.std.specs.Prelude.{List, map}
use Rattle.alloy_lex.specs.declared.token.Token.{Token}
use Rattle.alloy_syntax.specs.declared.parser_token.ParserToken.{ParserToken}
use Rattle.alloy_syntax.specs.Class.{class_of}

abbrev pub seen : Token → ParserToken
seen t = record { class = class_of t; place = t.place; text = t.text }

abbrev pub seen_all : List Token → List ParserToken
seen_all = map seen
