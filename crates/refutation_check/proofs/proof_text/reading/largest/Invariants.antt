use Rattle.std.proofs.Common.{◌≡◌, length, max}
use Rattle.refutation_check.specs.ProofText.{largest_of}
use Rattle.refutation_check.proofs.proof_text.reading.largest.Given as goal

abbrev pub invariant-each : goal.invariant-each
invariant-each l = record { value : max l.most (largest_of l.rest) ≡ max l.number (largest_of l.lits) }

abbrev pub decreases-each : goal.decreases-each
decreases-each l = length l.rest
