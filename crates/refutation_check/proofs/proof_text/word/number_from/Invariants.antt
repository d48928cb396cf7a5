use Rattle.std.proofs.Common.{◌≡◌, ◌≤◌, length}
use Rattle.refutation_check.specs.Scanned.{read_after, behind_digits}
use Rattle.refutation_check.proofs.proof_text.word.number_from.Given as goal

abbrev pub invariant-each : goal.invariant-each
invariant-each l = record {
  value : read_after l.value l.rest ≡ read_after l.number l.bytes;
  same : behind_digits l.rest ≡ behind_digits l.bytes;
  small : l.value ≤ 2147483648;
}

abbrev pub decreases-each : goal.decreases-each
decreases-each l = length l.rest
