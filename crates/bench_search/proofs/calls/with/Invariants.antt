use Rattle.std.proofs.Common.{◌≡◌, ◌++◌, take}
use Rattle.bench_search.proofs.calls.with.Given as goal

abbrev pub invariant-loop-i : goal.invariant-loop-i
invariant-loop-i l = record { vars : l.formula.vars ≡ l.f.vars; clauses : l.formula.clauses ≡ take l.i l.f.clauses }

abbrev pub invariant-loop-clause : goal.invariant-loop-clause
invariant-loop-clause l = record { vars : l.formula.vars ≡ l.f.vars; clauses : l.formula.clauses ≡ l.f.clauses ++ take l.clause-index l.more }
