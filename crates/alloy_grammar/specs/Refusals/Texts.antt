-- Which tokens begin a text.
use Rattle.std.specs.Prelude.{◌≡◌, List, [], ◌∷◌, ◌++◌, Option, Some, None}
use Rattle.alloy_syntax.specs.declared.class.Class.{Class}
use Rattle.alloy_syntax.specs.declared.parser_token.ParserToken.{ParserToken}
use Rattle.alloy_syntax.specs.Tree.{ModelTree}
use Rattle.alloy_grammar.specs.Models.{IsTextOf}

-- which terminal comes next, or that no token is left
abbrev pub next_terminal : List ParserToken → Option Class
next_terminal [] = None
next_terminal (t ∷ ts) = Some t.class

-- a text that begins with the first tokens, and goes on with the terminal that the second go on with, or ends where they do
pub record GoesOn (before rest : List ParserToken) : Type 0 where
  pub tail : List ParserToken
  pub alike : next_terminal tail ≡ next_terminal rest
  pub model : ModelTree
  pub text : IsTextOf (before ++ tail) model
