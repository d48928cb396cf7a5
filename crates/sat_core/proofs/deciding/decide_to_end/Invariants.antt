use Rattle.std.proofs.Common.{◌≡◌, ◌≤◌, ◌+◌, ◌-◌, length}
use Rattle.unit_propagation.specs.Assignments.Trail.{level_of}
use Rattle.sat_core.specs.Search.{IsAssumedTo}
use Rattle.sat_core.proofs.deciding.decide_to_end.Given as goal

abbrev pub invariant-deciding : goal.invariant-deciding
invariant-deciding l = record {
  vars : l.trail.vars ≡ l.fn.trail.vars;
  clauses : l.trail.clauses ≡ l.fn.trail.clauses;
  so_far : IsAssumedTo l.assumed (length l.assumed) l.depth l.trail;
  low : l.depth ≤ level_of l.trail.assigned;
}

abbrev pub decreases-deciding : goal.decreases-deciding
decreases-deciding l = (l.trail.vars + 2) - length l.trail.assigned
