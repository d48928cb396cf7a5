use Rattle.std.proofs.Common.{◌≡◌, ◌++◌, take}
use Rattle.cnf_core.specs.Formula.{Formula}
use Rattle.script_text.proofs.proof_lines.formula.add_formula.Given as goal

abbrev pub invariant-loop-number : goal.invariant-loop-number
invariant-loop-number l = l.formula ≡ record { vars = l.fn.formula.vars; clauses = l.fn.formula.clauses ++ take l.number l.other.clauses }
