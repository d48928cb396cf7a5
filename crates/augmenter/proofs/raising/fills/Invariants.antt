use Rattle.std.proofs.Common.{◌≡◌}
use Rattle.unit_propagation.specs.Assignments.Trail.{falses_of}
use Rattle.sat_trail.specs.Closed.{IsClosed}
use Rattle.sat_trail.specs.Deciding.{HasAllValues}
use Rattle.minimiser.specs.Lowering.{IsMore}
use Rattle.augmenter.proofs.raising.fills.Given as goal

abbrev pub invariant-loop-before : goal.invariant-loop-before
invariant-loop-before l = record {
  vars : l.trail.vars ≡ l.fn.trail.vars;
  clauses : l.trail.clauses ≡ l.fn.trail.clauses;
  more : IsMore l.fn.trail l.trail;
  closed : IsClosed l.trail.clauses (falses_of l.trail.assigned);
  valued : HasAllValues l.before (falses_of l.trail.assigned);
}
