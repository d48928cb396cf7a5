use Rattle.std.proofs.Common.{◌≡◌, ℕ, List}
use Rattle.unit_propagation.specs.Assignments.Trail.{falses_of}
use Rattle.sat_trail.specs.Deciding.{HasAllValues}
use Rattle.minimiser.specs.Lowering.{IsMore, Leads}
use Rattle.minimiser.proofs.lowering.settles_all.Given as goal

abbrev pub invariant-loop-cell : goal.invariant-loop-cell
invariant-loop-cell l = record {
  vars : l.trail.vars ≡ l.fn.trail.vars;
  clauses : l.trail.clauses ≡ l.fn.trail.clauses;
  more : IsMore l.fn.trail l.trail;
  led : (floor : List ℕ) → Leads floor l.cells l.fn.trail → Leads floor l.cells l.trail;
  valued : HasAllValues l.cell (falses_of l.trail.assigned);
}
