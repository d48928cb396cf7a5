use Rattle.std.proofs.Common.{◌≤◌, All}
use Rattle.hub_tests.proofs.of_clause_pool.clause.Given as goal

abbrev pub invariant-loop-var : goal.invariant-loop-var
invariant-loop-var l = All (λ x. (1 ≤ x.var) × (x.var ≤ 256)) l.lits.items
