use Rattle.std.proofs.Common.{◌≡◌, ◌<◌, ℕ}
use Rattle.minimiser.specs.Lowering.{IsBounded, Leads}
use Rattle.minimiser.proofs.lowering.bounds_all.Given as goal

abbrev pub invariant-loop-cell : goal.invariant-loop-cell
invariant-loop-cell l = record {
  vars : l.trail.vars ≡ l.fn.trail.vars;
  clauses : l.trail.clauses ≡ l.fn.trail.clauses;
  leads : Leads l.floor l.cells l.trail;
  bounded : (cell : ℕ) → cell < l.cell → IsBounded l.floor l.start l.trail cell;
}
