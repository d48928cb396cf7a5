use Rattle.std.proofs.Common.{◌≡◌, ◌+◌, length}
use Rattle.std.specs.List.{prefix_len}
use Rattle.refutation_check.specs.Scanned.{is_in_line}
use Rattle.refutation_check.proofs.proof_text.reading.line_len.Given as goal

abbrev pub invariant-each : goal.invariant-each
invariant-each l = record { value : l.len + prefix_len is_in_line l.rest ≡ prefix_len is_in_line l.bytes; within : l.len + length l.rest ≡ length l.bytes }

abbrev pub decreases-each : goal.decreases-each
decreases-each l = length l.rest
