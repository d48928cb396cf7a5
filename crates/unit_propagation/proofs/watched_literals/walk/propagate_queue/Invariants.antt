use Rattle.std.proofs.Common.{◌≡◌, ◌+◌, ◌-◌}
use Rattle.unit_propagation.specs.Assignments.Trail.{ForcesMore, level_of}
use Rattle.unit_propagation.specs.Propagation.Walk.{IsReady}
use Rattle.unit_propagation.proofs.watched_literals.walk.propagate_queue.Given as goal

abbrev pub invariant-literals : goal.invariant-literals
invariant-literals l = record {
  ready : IsReady l.store l.watches l.now l.pending.flags l.propagated;
  vars : l.now.vars ≡ l.fn.now.vars;
  more : ForcesMore l.fn.now.assigned l.now.assigned;
  level : level_of l.now.assigned ≡ level_of l.fn.now.assigned;
}

abbrev pub decreases-literals : goal.decreases-literals
decreases-literals l = (l.now.vars + 2) - l.propagated
