use Rattle.std.proofs.Common.{◌≡◌}
use Rattle.translation.proofs.swap_clauses.swaps.formula_of.Given as goal

abbrev pub invariant-loop-clause : goal.invariant-loop-clause
invariant-loop-clause l = l.formula ≡ record { vars = l.fn.vars; clauses = l.yielded }
