use Rattle.std.proofs.Common.{All, take}
use Rattle.cnf_core.specs.Literal.{HasVarsUpTo}
use Rattle.refutation_check.specs.declared.log.Step.{Step}
use Rattle.session_tests.proofs.of_search_rounds.are_within.Given as goal

abbrev pub invariant-loop-step : goal.invariant-loop-step
invariant-loop-step l = All (λ (s : Step). HasVarsUpTo 1000 s.clause) (take l.step-index l.step-items)
