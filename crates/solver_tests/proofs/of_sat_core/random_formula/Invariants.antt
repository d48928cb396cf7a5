use Rattle.std.proofs.Common.{◌≡◌, ◌≤◌, ◌-◌, length}
use Rattle.solver_tests.proofs.of_sat_core.random_formula.Given as goal

abbrev pub invariant-clauses : goal.invariant-clauses
invariant-clauses l = record { vars : l.formula.vars ≡ 40; few : length l.formula.clauses ≤ 172 }

abbrev pub decreases-clauses : goal.decreases-clauses
decreases-clauses l = 172 - length l.formula.clauses
