use Rattle.std.proofs.Common.{◌≡◌, length}
use Rattle.refutation_check.specs.Scanned.{behind_spaces}
use Rattle.refutation_check.proofs.proof_text.word.behind_spaces.Given as goal

abbrev pub invariant-each : goal.invariant-each
invariant-each l = record { same : behind_spaces l.rest ≡ behind_spaces l.bytes }

abbrev pub decreases-each : goal.decreases-each
decreases-each l = length l.rest
