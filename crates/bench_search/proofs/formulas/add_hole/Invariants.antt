use Rattle.std.proofs.Common.{◌≤◌, All}
use Rattle.bench_search.proofs.formulas.add_hole.Given as goal

abbrev pub invariant-loop-hole : goal.invariant-loop-hole
invariant-loop-hole l = All (λ x. (1 ≤ x.var) × (x.var ≤ l.vars)) l.lits.items
