use Rattle.std.proofs.Common.{◌≡◌, All, length}
use Rattle.cnf_core.specs.Literal.{HasVarsUpTo}
use Rattle.solver_tests.proofs.of_kept_search.clauses_of.Given as goal

abbrev pub invariant-loop-numbers : goal.invariant-loop-numbers
invariant-loop-numbers l = record { few : length l.made.items ≡ l.numbers-index; vars : All (HasVarsUpTo l.vars) l.made.items }
