use Rattle.std.proofs.Common.{◌≡◌, ◌≤◌, length}
use Rattle.bench.proofs.refutations.formula_of.Given as goal

abbrev pub invariant-loop-i : goal.invariant-loop-i
invariant-loop-i l = record { vars : l.formula.vars ≡ 1020; few : length l.formula.clauses ≤ l.i }
