use Rattle.std.proofs.Common.{◌<◌, All}
use Rattle.solver_tests.proofs.of_refutation_check.step.Given as goal

abbrev pub invariant-loop-hint : goal.invariant-loop-hint
invariant-loop-hint l = All (λ hint. hint < 256) l.wide.items
