use Rattle.std.proofs.Common.{◌≡◌, ◌++◌, length}
use Rattle.std.specs.List.{flat_map}
use Rattle.refutation_check.specs.WrittenProof.{literal_text}
use Rattle.refutation_check.proofs.proof_text.writing.push_literals.Given as goal

abbrev pub invariant-each : goal.invariant-each
invariant-each l = record { written : l.out.items ++ flat_map literal_text l.rest ≡ l.fn.out.items ++ flat_map literal_text l.lits }

abbrev pub decreases-each : goal.decreases-each
decreases-each l = length l.rest
