use Rattle.std.proofs.Common.{◌≡◌, ap, sym, ◌∙◌, subst}
use Rattle.cnf_core.specs.Literal.{HasVarsUpTo}
use Rattle.refutation_check.specs.declared.log.Step.{Step}
use Rattle.sat_trail.specs.Trailed.{Trailed}
use Rattle.sat_trail.proofs.Trails.{filled_more, next_is}
use Rattle.sat_trail.proofs.trail.Trail.fill_with_steps.Goals as goal

pub put-requires-clause-vars : goal.put-requires-clause-vars
put-requires-clause-vars c =
    let vars : c.loop-step.self.vars ≡ c.args.self.now.vars = ap (λ (t : Trailed). t.vars) c.loop-step.invariant in
    rw vars (subst (λ (s : Step). HasVarsUpTo c.args.self.now.vars s.clause) (sym c.step-item.is) (c.requires.vars c.loop-step.step-index c.step-item.result c.loop-step-test.true))

pub put-requires-clause-unmarked : goal.put-requires-clause-unmarked
put-requires-clause-unmarked c = λ _. ap (λ (t : Trailed). t.assigned) c.loop-step.invariant ∙ c.requires.empty

pub loop-step-preserved : goal.loop-step-preserved
loop-step-preserved c = filled_more _ _ _ _ _ _ c.loop-step.invariant c.in_ok-put.ensures.ok (next_is (λ (s : Step). s.clause) _ _ _ c.loop-step-test.true c.step-item.is)
