use Rattle.std.proofs.Common.{◌≡◌, length}
use Rattle.bench_search.proofs.formulas.random.Given as goal

abbrev pub invariant-loop-made : goal.invariant-loop-made
invariant-loop-made l = record { vars : l.formula.vars ≡ l.vars; count : length l.formula.clauses ≡ l.made }
