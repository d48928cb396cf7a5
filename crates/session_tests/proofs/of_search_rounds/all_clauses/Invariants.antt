use Rattle.std.proofs.Common.{◌≡◌}
use Rattle.session_tests.proofs.of_search_rounds.all_clauses.Given as goal

abbrev pub invariant-loop-number : goal.invariant-loop-number
invariant-loop-number l = l.formula.vars ≡ 1000

abbrev pub invariant-loop-clause : goal.invariant-loop-clause
invariant-loop-clause l = l.formula.vars ≡ 1000
