use Rattle.std.proofs.Common.{◌≢◌, List, [], All, take}
use Rattle.cnf_core.specs.declared.literal.Lit.{Lit}
use Rattle.refutation_check.specs.declared.log.Step.{Step}
use Rattle.session_state.proofs.search_rounds.novel.has_empty.Given as goal

abbrev pub invariant-loop-place : goal.invariant-loop-place
invariant-loop-place l = All (λ (c : List Lit). c ≢ []) (take l.place l.part.local)

abbrev pub invariant-loop-step : goal.invariant-loop-step
invariant-loop-step l = All (λ (c : List Lit). c ≢ []) l.part.local × All (λ (s : Step). s.clause ≢ []) (take l.step-index l.steps)
