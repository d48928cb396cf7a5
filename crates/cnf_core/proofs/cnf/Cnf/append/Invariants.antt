use Rattle.std.proofs.Common.{◌≡◌, ◌++◌, take}
use Rattle.cnf_core.proofs.cnf.Cnf.append.Given as goal

abbrev pub invariant-loop-clause : goal.invariant-loop-clause
invariant-loop-clause l = l.self ≡ record { vars = l.fn.self.vars; clauses = l.fn.self.clauses ++ take l.clause-index l.clauses }
