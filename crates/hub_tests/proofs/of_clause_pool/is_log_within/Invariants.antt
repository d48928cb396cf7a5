use Rattle.std.proofs.Common.{All, take}
use Rattle.cnf_core.specs.Literal.{HasVarsUpTo}
use Rattle.hub_tests.proofs.of_clause_pool.is_log_within.Given as goal

abbrev pub invariant-loop-step : goal.invariant-loop-step
invariant-loop-step l = All (λ s. HasVarsUpTo l.vars s.clause) (take l.step-index l.steps)
