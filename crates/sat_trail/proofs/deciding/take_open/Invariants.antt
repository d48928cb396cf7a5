use Rattle.std.specs.List.{count_by}
use Rattle.unit_propagation.specs.Assignments.Trail.{falses_of}
use Rattle.sat_trail.specs.Waiting.{IsOrderOf}
use Rattle.sat_trail.proofs.deciding.take_open.Given as goal

abbrev pub invariant-taking : goal.invariant-taking
invariant-taking l = IsOrderOf l.now.vars (falses_of l.now.assigned) l.order

abbrev pub decreases-taking : goal.decreases-taking
decreases-taking l = count_by (λ b. b) l.order.waiting
