use Rattle.std.proofs.Common.{◌≤◌}
use Rattle.translation_tests.proofs.of_circuit_cnf.extensions.Given as goal

abbrev pub invariant-loop-valuation : goal.invariant-loop-valuation
invariant-loop-valuation g l = l.found ≤ l.valuation
