use Rattle.std.proofs.Common.{◌∙◌, List, sym, arith}
use Rattle.refutation_check.specs.declared.log.Step.{Step}
use Rattle.session_state.proofs.Rounds.SameLists.{same_more, same_all}
use Rattle.session_state.proofs.search_rounds.comparing.is_same_log.Goals as goal

pub loop-i-preserved : goal.loop-i-preserved
loop-i-preserved c =
    let xs : List Step = c.steps-steps.result.now in
    let ys : List Step = c.steps-others.result.now in
    same_more xs ys c.loop-i.i c.index-steps-i.result c.index-others-i.result c.loop-i-test.true (omega arith) c.index-steps-i.is c.index-others-i.is (c.is_same_step.ensures c.if-not-is_same_step.false) c.loop-i.invariant

pub returns : goal.returns
returns c = λ t.
    let xs : List Step = c.steps-steps.result.now in
    let ys : List Step = c.steps-others.result.now in
    sym c.steps-steps.ensures.steps ∙ same_all xs ys c.loop-i.i c.loop-i-test.false (omega arith) c.loop-i.invariant ∙ c.steps-others.ensures.steps
