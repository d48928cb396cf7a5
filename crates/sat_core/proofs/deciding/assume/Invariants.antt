use Rattle.std.proofs.Common.{◌≡◌}
use Rattle.sat_core.specs.Search.{IsAssumedTo}
use Rattle.sat_core.proofs.deciding.assume.Given as goal

abbrev pub invariant-loop-place : goal.invariant-loop-place
invariant-loop-place l = record {
  vars : l.trail.vars ≡ l.fn.trail.vars;
  clauses : l.trail.clauses ≡ l.fn.trail.clauses;
  so_far : IsAssumedTo l.assumed l.place l.depth l.trail;
}
