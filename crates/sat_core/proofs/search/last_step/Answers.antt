use Rattle.std.proofs.Common.{◌≡◌, ◌<◌, ◌++◌, ◌∷◌, [], ℕ, List, All, length, get_or, arith, ap, ap₂, subst, sym, ◌∙◌}
use Rattle.cnf_core.specs.declared.literal.Lit.{Lit}
use Rattle.cnf_core.specs.Literal.{HasVarsUpTo}
use Rattle.refutation_check.specs.declared.log.Step.{Step}
use Rattle.refutation_check.specs.Chain.{members_of}
use Rattle.sat_trail.specs.Trailed.{Trailed}
use Rattle.unit_propagation.specs.Assignments.Trail.{falses_of, level_of}
use Rattle.sat_trail.specs.Closed.{IsClosed}
use Rattle.sat_core.proofs.Searches.{members_none, members_taken, members_all}
use Rattle.sat_core.proofs.Descents.{flat_at_zero}
use Rattle.sat_core.proofs.search.last_step.Goals as goal

pub loop-step-init : goal.loop-step-init
loop-step-init c =
    let made = c.in_ok-trail.ensures in
    record {
      clauses = made.clauses ∙ sym (members_none (members_of (c.args.f.now.clauses ++ c.args.local.now) c.args.pool.now));
      within = subst (All (HasVarsUpTo c.in_ok-trail.trail.vars)) made.clauses c.vars.ensures.within;
      assigned = made.assigned;
    }

pub unreachable-requires : goal.unreachable-requires
unreachable-requires c =
    let was = c.loop-step.invariant in
    let closed = c.in-Closed.ensures.propagated in
    c.requires.clash (falses_of c.propagate.new.self.assigned) (subst (λ (cs : List (List Lit)). IsClosed cs (falses_of c.propagate.new.self.assigned))
    (c.in-Closed.ensures.clauses ∙ (was.clauses ∙ members_all _ c.args.log.now _ (omega (arith, c.loop-step-test.false, ap length c.steps-step-items.ensures.steps)))) closed)

pub loop-step-preserved : goal.loop-step-preserved
loop-step-preserved c =
    let was = c.loop-step.invariant in
    let given = members_of (c.args.f.now.clauses ++ c.args.local.now) c.args.pool.now in
    let in' : c.loop-step.step-index < length c.args.log.now = omega (arith, c.loop-step-test.true, ap length c.steps-step-items.ensures.steps) in
    let made = c.in_ok-add.ensures.ok in
    record {
      clauses = ap (λ (t : Trailed). t.clauses) made ∙ (ap₂ (λ (cs : List (List Lit)) (x : Step). cs ++ x.clause ∷ []) was.clauses (c.in_ok-copy.ensures ∙ (c.step-item.is ∙ ap (λ (ss : List Step). get_or ss c.loop-step.step-index c.step-item.result) c.steps-step-items.ensures.steps)) ∙ sym (members_taken given c.args.log.now c.loop-step.step-index c.step-item.result in'));
      within = subst (λ (n : ℕ). All (HasVarsUpTo n) given) (sym (ap (λ (t : Trailed). t.vars) made)) was.within;
      assigned = ap (λ (t : Trailed). t.assigned) made ∙ was.assigned;
    }

pub returns-clause-empty : goal.returns-clause-empty
returns-clause-empty c =
    let now = c.in-Conflict.ensures in
    let none : level_of c.propagate.new.self.assigned ≡ 0 = now.level ∙ ap level_of c.loop-step.invariant.assigned in
    c.learn.ensures.empty (flat_at_zero c.propagate.new.self.clauses c.propagate.new.self.assigned now.trail c.in-Conflict.number now.propagated none)
