use Rattle.std.proofs.Common.{◌≤◌, arith, subst, sym}
use Rattle.std.proofs.lemmas.List.Elements.{All-map}
use Rattle.cnf_core.specs.Literal.{HasVarsUpTo}
use Rattle.refutation_check.specs.declared.log.Step.{Step}
use Rattle.sat_trail.proofs.Limits.{steps_more, clause_small, all_taken, All-unmap}
use Rattle.sat_trail.proofs.highest.highest_in_steps.Goals as goal

pub loop-step-preserved : goal.loop-step-preserved
loop-step-preserved c =
    let was = c.loop-step.invariant in
    let here = rw c.lits.ensures.lits at c.highest_in-highest.ensures.within in
    let least = rw c.lits.ensures.lits at c.highest_in-highest.ensures.least in
    let low : c.highest_in-highest.result ≤ 2147483647 = least 2147483647 (omega (arith, was.small)) (clause_small _ c.lits.ensures.clause) in
    record {
      at_least = omega (arith, was.at_least, c.highest_in-highest.ensures.at_least);
      within = steps_more _ _ _ _ c.step-item.result c.loop-step-test.true c.highest_in-highest.ensures.at_least was.within (subst (λ (s : Step). HasVarsUpTo c.highest_in-highest.result s.clause) c.step-item.is here);
      least = λ n h all. least n (was.least n h all) (subst (λ (s : Step). HasVarsUpTo n s.clause) (sym c.step-item.is) (all c.loop-step.step-index c.step-item.result c.loop-step-test.true));
      small = omega arith;
    }

pub returns-clause-limit : goal.returns-clause-limit
returns-clause-limit c =
    let was = c.loop-step.invariant in
    let full = all_taken (λ (s : Step). HasVarsUpTo c.loop-step.highest s.clause) _ _ c.loop-step-test.false was.within in
    record { at_least = was.at_least; within = All-map (HasVarsUpTo c.loop-step.highest) (λ (s : Step). s.clause) _ full; least = λ n h all. was.least n h (All-unmap (HasVarsUpTo n) _ all) }
