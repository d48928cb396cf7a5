use Rattle.std.proofs.Common.{◌≡◌, ◌-◌, ◌∙◌, ap, ap₂, ℕ, List, length, take}
use Rattle.refutation_check.specs.declared.log.Step.{Step}
use Rattle.clause_pool.proofs.Fitting.{up_to_is}
use Rattle.clause_pool.proofs.steps.add_up_to.Goals as goal

pub returns : goal.returns
returns c =
    let front : c.first_steps-front.result.now ≡ take (c.args.n - length c.args.to.now) c.args.log.now =
    c.first_steps-front.ensures ∙ ap₂ (λ (to log : List Step). take (c.args.n - length to) log) c.steps.ensures.steps c.steps-2.ensures.steps in
    up_to_is c.args.to.now c.args.log.now c.first_steps-front.result.now c.loop-step.to c.args.n c.loop-step.step-index c.requires.few front c.loop-step-test.false c.loop-step.invariant
