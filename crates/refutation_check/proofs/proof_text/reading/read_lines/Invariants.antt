use Rattle.std.proofs.Common.{length}
use Rattle.refutation_check.specs.Progress.{progress_of}
use Rattle.refutation_check.proofs.TextLines.{IsReadUpTo}
use Rattle.refutation_check.proofs.proof_text.reading.read_lines.Given as goal

abbrev pub invariant-each : goal.invariant-each
invariant-each l = IsReadUpTo l.bytes l.rest l.number (progress_of l.reading)

abbrev pub decreases-each : goal.decreases-each
decreases-each l = length l.rest
