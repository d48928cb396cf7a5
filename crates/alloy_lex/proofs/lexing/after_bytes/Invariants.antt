use Rattle.std.proofs.Common.{◌≡◌, ◌+◌, ◌≤◌, length}
use Rattle.alloy_lex.specs.Tokens.{after_bytes}
use Rattle.alloy_lex.proofs.lexing.after_bytes.Given as goal

abbrev pub invariant-each : goal.invariant-each
invariant-each l = record { value : after_bytes l.at l.rest ≡ after_bytes l.fn.place l.bytes; line : l.at.line + length l.rest ≤ l.fn.place.line + length l.bytes; column : l.at.column + length l.rest ≤ l.fn.place.column + length l.bytes }

abbrev pub decreases-each : goal.decreases-each
decreases-each l = length l.rest
