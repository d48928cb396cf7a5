use Rattle.std.proofs.Common.{◌≤◌, All}
use Rattle.bench.proofs.refutations.implication.Given as goal

abbrev pub invariant-loop-i : goal.invariant-loop-i
invariant-loop-i l = All (λ x. (1 ≤ x.var) × (x.var ≤ 1020)) l.lits.items
