use Rattle.std.proofs.Common.{◌≡◌, take}
use Rattle.sat_core.proofs.search.raised.Given as goal

abbrev pub invariant-loop-i : goal.invariant-loop-i
invariant-loop-i l = l.formula ≡ record { vars = l.vars; clauses = take l.i l.f.clauses }
