use Rattle.std.proofs.Common.{arith}
use Rattle.sat_core.proofs.search.refuted.Goals as goal

pub last_step-requires-clause-few : goal.last_step-requires-clause-few
last_step-requires-clause-few c = omega (arith, c.requires.few, c.requires.budget)

pub last_step-requires-clause-accepted : goal.last_step-requires-clause-accepted
last_step-requires-clause-accepted c = c.requires.so_far.accepted

pub last_step-requires-clause-vars : goal.last_step-requires-clause-vars
last_step-requires-clause-vars c = c.requires.so_far.vars
