use Rattle.minimiser.specs.Lowering.{IsOver}
use Rattle.solver_tests.proofs.of_minimiser.first_that_ends_wrong.Given as goal

abbrev pub invariant-loop-case : goal.invariant-loop-case
invariant-loop-case l = IsOver l.made.cnf l.trail
