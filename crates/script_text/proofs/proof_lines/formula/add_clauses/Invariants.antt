use Rattle.std.proofs.Common.{◌≡◌, ◌++◌, take}
use Rattle.cnf_core.specs.Formula.{Formula}
use Rattle.script_text.proofs.proof_lines.formula.add_clauses.Given as goal

abbrev pub invariant-loop-clause : goal.invariant-loop-clause
invariant-loop-clause l = l.formula ≡ record { vars = l.fn.formula.vars; clauses = l.fn.formula.clauses ++ take l.clause-index l.clauses }
