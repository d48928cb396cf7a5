use Rattle.std.proofs.Common.{◌≡◌, ◌+◌, ◌-◌, length}
use Rattle.unit_propagation.specs.Assignments.Trail.{ForcesMore, level_of}
use Rattle.unit_propagation.specs.Propagation.Walk.{IsReady}
use Rattle.sat_trail.proofs.rounds.propagate_all.Given as goal

abbrev pub invariant-rounds : goal.invariant-rounds
invariant-rounds l = record {
  ready : IsReady l.store l.watches l.now l.pending.flags l.propagated;
  vars : l.now.vars ≡ l.fn.now.vars;
  more : ForcesMore l.fn.now.assigned l.now.assigned;
  level : level_of l.now.assigned ≡ level_of l.fn.now.assigned;
}

abbrev pub decreases-rounds : goal.decreases-rounds
decreases-rounds l = (l.now.vars + 2) - length l.now.assigned
