use Rattle.std.proofs.Common.{◌+◌, ◌≤◌, length}
use Rattle.alloy_lex.specs.Tokens.{tokens_of}
use Rattle.alloy_lex.proofs.LexingSteps.{Lexes}
use Rattle.alloy_lex.proofs.lexing.lex.Given as goal

abbrev pub invariant-each : goal.invariant-each
invariant-each l = record { lexes : Lexes l.tokens.items l.at l.rest (tokens_of l.fn.text); start : l.at.start + length l.rest ≤ 1048576; line : l.at.place.line + length l.rest ≤ 1048577; column : l.at.place.column + length l.rest ≤ 1048577 }

abbrev pub decreases-each : goal.decreases-each
decreases-each l = length l.rest
