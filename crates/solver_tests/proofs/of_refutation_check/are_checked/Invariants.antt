use Rattle.std.proofs.Common.{◌≡◌}
use Rattle.solver_tests.proofs.of_refutation_check.are_checked.Given as goal

abbrev pub invariant-loop-steps : goal.invariant-loop-steps
invariant-loop-steps g l = l.scratch ≡ 2
