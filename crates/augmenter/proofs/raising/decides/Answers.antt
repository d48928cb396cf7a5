use Rattle.std.proofs.Common.{subst}
use Rattle.unit_propagation.specs.Assignments.Trail.{ForcesMore}
use Rattle.sat_trail.specs.Trailed.{Trailed}
use Rattle.augmenter.proofs.raising.decides.Goals as goal

pub returns-in-Closed-clause-forces : goal.returns-in-Closed-clause-forces
returns-in-Closed-clause-forces c = subst (λ (t : Trailed). ForcesMore t.assigned c.propagate.new.self.assigned) c.decide.ensures c.in-Closed.ensures.assigned

pub returns-in-Conflict-clause-forces : goal.returns-in-Conflict-clause-forces
returns-in-Conflict-clause-forces c = subst (λ (t : Trailed). ForcesMore t.assigned c.propagate.new.self.assigned) c.decide.ensures c.in-Conflict.ensures.assigned
