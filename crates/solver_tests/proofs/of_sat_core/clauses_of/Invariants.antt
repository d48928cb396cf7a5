use Rattle.std.proofs.Common.{◌≡◌, length}
use Rattle.solver_tests.proofs.of_sat_core.clauses_of.Given as goal

abbrev pub invariant-loop-numbers : goal.invariant-loop-numbers
invariant-loop-numbers l = length l.made.items ≡ l.numbers-index
