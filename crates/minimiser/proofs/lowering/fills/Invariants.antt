use Rattle.std.proofs.Common.{◌≡◌, ◌+◌, ◌-◌, length}
use Rattle.unit_propagation.specs.Assignments.Trail.{falses_of}
use Rattle.sat_trail.specs.Closed.{IsClosed}
use Rattle.sat_trail.specs.Deciding.{HasAllValues}
use Rattle.minimiser.specs.Lowering.{IsMore}
use Rattle.minimiser.proofs.lowering.fills.Given as goal

abbrev pub invariant-filling : goal.invariant-filling
invariant-filling l = record {
  vars : l.trail.vars ≡ l.fn.trail.vars;
  clauses : l.trail.clauses ≡ l.fn.trail.clauses;
  more : IsMore l.fn.trail l.trail;
  closed : IsClosed l.trail.clauses (falses_of l.trail.assigned);
  valued : HasAllValues l.last (falses_of l.trail.assigned);
}

abbrev pub decreases-filling : goal.decreases-filling
decreases-filling l = (l.trail.vars + 2) - length l.trail.assigned
