use Rattle.std.proofs.Common.{◌≤◌, All}
use Rattle.solver_tests.proofs.clauses.clause.Given as goal

abbrev pub invariant-loop-number : goal.invariant-loop-number
invariant-loop-number l = All (λ x. (1 ≤ x.var) × (x.var ≤ l.vars)) l.lits.items
