use Rattle.std.proofs.Common.{◌≡◌, ◌≤◌, ◌<◌, true, false, ℕ, List, get_or, length, All, refl, sym, ◌∙◌, ap, subst, arith}
use Rattle.tuple_core.proofs.Steps.{all_step, all_done}
use Rattle.cnf_core.specs.Literal.{HasVarsUpTo}
use Rattle.refutation_check.specs.declared.log.Step.{Step}
use Rattle.session_tests.proofs.of_search_rounds.are_within.Goals as goal

pub loop-step-preserved : goal.loop-step-preserved
loop-step-preserved c =
    let xs : List Step = c.steps-step-items.result.now in
    let s : Step = c.step-item.result in
    all_step (λ (s : Step). HasVarsUpTo 1000 s.clause) xs c.loop-step.step-index s c.loop-step-test.true c.step-item.is c.loop-step.invariant (c.is_within.ensures c.if-not-is_within.false)

pub returns : goal.returns
returns c = λ t.
    let xs : List Step = c.steps-step-items.result.now in
    let all = all_done (λ (s : Step). HasVarsUpTo 1000 s.clause) xs c.loop-step.step-index (omega arith) c.loop-step.invariant in
    subst (All (λ (s : Step). HasVarsUpTo 1000 s.clause)) c.steps-step-items.ensures.steps all
