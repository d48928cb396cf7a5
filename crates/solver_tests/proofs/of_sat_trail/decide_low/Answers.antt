use Rattle.std.proofs.Common.{arith}
use Rattle.solver_tests.proofs.of_sat_trail.decide_low.Goals as goal

pub decide_low-requires-clause-from : goal.decide_low-requires-clause-from
decide_low-requires-clause-from g c = λ var low high. absurd (omega (arith, low, high))
