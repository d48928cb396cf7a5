use Rattle.std.proofs.Common.{◌≡◌, length}
use Rattle.solver_tests.proofs.of_sat_core.formula.Given as goal

abbrev pub invariant-loop-numbers : goal.invariant-loop-numbers
invariant-loop-numbers l = record { vars : l.formula.vars ≡ l.vars; few : length l.formula.clauses ≡ l.numbers-index }
