use Rattle.std.proofs.Common.{take}
use Rattle.cnf_core.specs.Literal.{HasVarsUpTo}
use Rattle.hub_tests.proofs.of_clause_pool.is_within.Given as goal

abbrev pub invariant-loop-lit : goal.invariant-loop-lit
invariant-loop-lit l = HasVarsUpTo l.vars (take l.lit-index l.lits)
