use Rattle.std.proofs.Common.{arith}
use Rattle.solver_tests.proofs.of_refutation_check.lifted.Goals as goal

pub lift-requires : goal.lift-requires
lift-requires c = λ k d h i e j _. let small = c.in_ok-derived.ensures.hints k d h i e j in omega arith
