use Rattle.std.proofs.Common.{not}
use Rattle.solver_tests.proofs.of_sat_trail.decide.Goals as goal

pub decide-requires-clause-is_open : goal.decide-requires-clause-is_open
decide-requires-clause-is_open g c = let open_ = c.in-None.ensures in (open_ c.literal-lit.result.positive, open_ (not c.literal-lit.result.positive))
