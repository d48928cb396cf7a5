use Rattle.std.proofs.Common.{◌-◌, All, length, sym, ap, subst, ◌∙◌}
use Rattle.std.proofs.lemmas.List.Elements.{All-push}
use Rattle.cnf_core.specs.Literal.{HasVarsUpTo}
use Rattle.refutation_check.specs.declared.log.Step.{Step}
use Rattle.refutation_check.specs.Numbering.{IsNumbered, name_in}
use Rattle.refutation_check.proofs.Numbers.{one_step_more}
use Rattle.refutation_check.proofs.sparse.numbered_log.Goals as goal

pub numbered-requires-clause-numbered : goal.numbered-requires-clause-numbered
numbered-requires-clause-numbered c =
    let all = subst (All (λ (s : Step). IsNumbered c.args.names.now s.clause)) (sym c.steps-steps.ensures.steps) c.requires.numbered in
    rw c.lits.ensures.lits (subst (λ (s : Step). IsNumbered c.args.names.now s.clause) (sym c.step-item.is) (all c.loop-step.step-index c.step-item.result c.loop-step-test.true))

pub loop-step-preserved : goal.loop-step-preserved
loop-step-preserved c =
    let was = c.loop-step.invariant in
    let made : Step = record { clause = c.in_ok-clause.clause; hints = c.in_ok-hints.hints } in
    let clause = c.in_ok-clause.ensures.named ∙ (c.lits.ensures.lits ∙ ap (λ (s : Step). s.clause) c.step-item.is) in
    let hints = c.in_ok-hints.ensures ∙ ap (λ (s : Step). s.hints) c.step-item.is in
    rw c.in_ok-push.ensures.ok
    (record {
      named = one_step_more (name_in c.args.names.now) c.loop-step.made c.steps-steps.result.now c.loop-step.step-index c.step-item.result made c.loop-step-test.true clause hints was.named;
      within = All-push (λ (s : Step). HasVarsUpTo (length c.args.names.now - 1) s.clause) c.loop-step.made made was.within c.in_ok-clause.ensures.vars;
    })
