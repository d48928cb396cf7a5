use Rattle.std.proofs.Common.{◌≡◌}
use Rattle.bench_search.proofs.effort.descend.Given as goal

abbrev pub invariant-loop-turn : goal.invariant-loop-turn
invariant-loop-turn l = record { vars : l.trail.vars ≡ l.fn.trail.vars; clauses : l.trail.clauses ≡ l.fn.trail.clauses }
