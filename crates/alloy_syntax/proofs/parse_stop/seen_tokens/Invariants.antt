use Rattle.std.proofs.Common.{◌≡◌, take}
use Rattle.alloy_syntax.specs.ParserTokens.{seen_all}
use Rattle.alloy_syntax.proofs.parse_stop.seen_tokens.Given as goal

abbrev pub invariant-loop-token : goal.invariant-loop-token
invariant-loop-token l = l.found.items ≡ seen_all (take l.token-index l.tokens)
