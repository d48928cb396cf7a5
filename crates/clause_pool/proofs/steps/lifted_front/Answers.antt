use Rattle.std.proofs.Common.{◌≡◌, ◌++◌, ◌∙◌, sym, ap, List, take}
use Rattle.refutation_check.specs.declared.log.Step.{Step}
use Rattle.refutation_check.specs.Lift.{lifted}
use Rattle.clause_pool.proofs.Fitting.{lifted_take}
use Rattle.clause_pool.proofs.steps.lifted_front.Goals as goal

pub returns : goal.returns
returns c =
    let front : c.add_up_to.new.to ≡ take c.args.n c.args.log.now = c.in_ok-add_up_to.ensures ∙ ap (λ (xs : List Step). take c.args.n (xs ++ c.args.log.now)) c.new-front.ensures in
    c.in_ok-lift-2.ensures ∙ (ap (lifted c.args.base c.args.added) front ∙ sym (lifted_take c.args.base c.args.added c.args.n c.args.log.now))
