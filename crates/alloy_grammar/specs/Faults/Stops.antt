-- Where reading stops.
use Rattle.std.specs.Prelude.{◌≡◌, List, ◌++◌}
use Rattle.alloy_syntax.specs.declared.parser_token.ParserToken.{ParserToken}
use Rattle.alloy_syntax.specs.Readers.{ParseStopView, refused, too_deep, unsupported}

-- the tokens that aren't read, the first of which is at fault
abbrev pub unread : ParseStopView → List ParserToken
unread (refused rest) = rest
unread (too_deep rest) = rest
unread (unsupported form rest) = rest

-- the second tokens are the last of the first
abbrev pub AreLast : List ParserToken → List ParserToken → Type 0
AreLast ts rest = (before : List ParserToken) × (ts ≡ before ++ rest)
