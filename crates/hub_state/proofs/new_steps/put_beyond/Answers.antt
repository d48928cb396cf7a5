use Rattle.std.proofs.Common.{◌≡◌, ◌-◌, ◌++◌, ◌∙◌, List, length, take, drop, ap, arith}
use Rattle.std.proofs.lemmas.List.{take_all}
use Rattle.refutation_check.specs.declared.log.Step.{Step}
use Rattle.hub_state.proofs.new_steps.put_beyond.Goals as goal

pub returns-clause-ok : goal.returns-clause-ok
returns-clause-ok c =
    let have = c.args.have.now in
    let steps = c.args.steps.now in
    let rest : c.behind-rest.result.now ≡ drop (length have - c.args.before) steps = c.behind-rest.ensures ∙ ap (λ (xs : List Step). drop (length xs - c.args.before) steps) c.steps.ensures.steps in
    c.loop-step.invariant ∙ ap (λ (xs : List Step). have ++ xs) (take_all c.loop-step.step-index c.behind-rest.result.now (omega (arith, c.loop-step-test.false)) ∙ rest)

pub returns-clause-part : goal.returns-clause-part
returns-clause-part c =
    let have = c.args.have.now in
    let steps = c.args.steps.now in
    let rest : c.behind-rest.result.now ≡ drop (length have - c.args.before) steps = c.behind-rest.ensures ∙ ap (λ (xs : List Step). drop (length xs - c.args.before) steps) c.steps.ensures.steps in
    (c.loop-step.step-index, c.loop-step.invariant ∙ ap (λ (xs : List Step). have ++ take c.loop-step.step-index xs) rest)

pub returns-in_err-copy-clause-part : goal.returns-in_err-copy-clause-part
returns-in_err-copy-clause-part c =
    let have = c.args.have.now in
    let steps = c.args.steps.now in
    let rest : c.behind-rest.result.now ≡ drop (length have - c.args.before) steps = c.behind-rest.ensures ∙ ap (λ (xs : List Step). drop (length xs - c.args.before) steps) c.steps.ensures.steps in
    (c.loop-step.step-index, c.loop-step.invariant ∙ ap (λ (xs : List Step). have ++ take c.loop-step.step-index xs) rest)

pub returns-in_err-push-clause-part : goal.returns-in_err-push-clause-part
returns-in_err-push-clause-part c =
    let have = c.args.have.now in
    let steps = c.args.steps.now in
    let rest : c.behind-rest.result.now ≡ drop (length have - c.args.before) steps = c.behind-rest.ensures ∙ ap (λ (xs : List Step). drop (length xs - c.args.before) steps) c.steps.ensures.steps in
    (c.loop-step.step-index, c.in_err-push.ensures.err ∙ c.loop-step.invariant ∙ ap (λ (xs : List Step). have ++ take c.loop-step.step-index xs) rest)
