use Rattle.std.proofs.Common.{◌≡◌, ◌+◌, length}
use Rattle.std.specs.List.{prefix_len}
use Rattle.alloy_lex.specs.Fronts.{is_digit}
use Rattle.alloy_lex.proofs.front.digits_len.Given as goal

abbrev pub invariant-each : goal.invariant-each
invariant-each l = record { value : l.n + prefix_len is_digit l.rest ≡ prefix_len is_digit l.bytes; within : l.n + length l.rest ≡ length l.bytes }

abbrev pub decreases-each : goal.decreases-each
decreases-each l = length l.rest
