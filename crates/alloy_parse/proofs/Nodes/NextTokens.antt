-- What is told by the next token.
use Rattle.std.proofs.Common.{◌≡◌, true, List, [], ◌∷◌, length, ◌<◌, arith}
use Rattle.alloy_syntax.specs.declared.parser_token.ParserToken.{ParserToken}
use Rattle.alloy_syntax.specs.Nodes.{is_constant}
use Rattle.alloy_syntax.specs.Readers.{next_is}

-- a constant is a token
pub constant_is_there : (ts : List ParserToken) → is_constant ts ≡ true → 0 < length ts
unfolding is_constant next_is
constant_is_there [] e = absurd cc
constant_is_there (t ∷ ts) e = omega arith
