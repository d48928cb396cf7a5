use Rattle.std.proofs.Common.{◌≤◌, length}
use Rattle.hub_tests.proofs.of_clause_pool.copies.Given as goal

abbrev pub invariant-loop-made : goal.invariant-loop-made
invariant-loop-made l = length l.log ≤ l.made
