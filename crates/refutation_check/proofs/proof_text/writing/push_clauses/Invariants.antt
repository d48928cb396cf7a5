use Rattle.std.proofs.Common.{◌≡◌, ◌≤◌, ◌++◌, length, take}
use Rattle.std.specs.List.{flat_map}
use Rattle.refutation_check.specs.WrittenProof.{clause_text}
use Rattle.refutation_check.proofs.proof_text.writing.push_clauses.Given as goal

abbrev pub invariant-loop-number : goal.invariant-loop-number
invariant-loop-number l = record {
  written : l.out.items ≡ l.fn.out.items ++ flat_map clause_text (take l.number l.f.clauses);
  within : l.number ≤ length l.f.clauses;
}
