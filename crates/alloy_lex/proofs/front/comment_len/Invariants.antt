use Rattle.std.proofs.Common.{◌≡◌, ◌+◌, length}
use Rattle.std.specs.Prelude.{option_map}
use Rattle.alloy_lex.specs.Fronts.{comment_len}
use Rattle.alloy_lex.proofs.front.comment_len.Given as goal

abbrev pub invariant-each : goal.invariant-each
invariant-each l = record { value : option_map (λ k. l.n + k) (comment_len l.rest) ≡ comment_len l.bytes; within : l.n + length l.rest ≡ length l.bytes }

abbrev pub decreases-each : goal.decreases-each
decreases-each l = length l.rest
