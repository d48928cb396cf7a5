use Rattle.std.proofs.Common.{length}
use Rattle.refutation_check.specs.ProofText.{IsNumber}
use Rattle.refutation_check.specs.Scanned.{read_number}
use Rattle.refutation_check.proofs.ReadLines.{IsReadSoFar}
use Rattle.refutation_check.proofs.proof_text.line.hints.Given as goal

abbrev pub invariant-each : goal.invariant-each
invariant-each l = IsReadSoFar IsNumber read_number l.line l.fn.into.items l.into.items l.rest

abbrev pub decreases-each : goal.decreases-each
decreases-each l = length l.rest
