use Rattle.std.proofs.Common.{◌≡◌, ◌≤◌, ◌++◌, ℕ, All, arith, ap, subst, sym, ◌∙◌}
use Rattle.std.proofs.lemmas.List.Elements.{All-weaker}
use Rattle.cnf_core.specs.Literal.{HasVarsUpTo}
use Rattle.refutation_check.specs.declared.log.Step.{Step}
use Rattle.refutation_check.specs.Chain.{members_of}
use Rattle.sat_trail.specs.Trailed.{Trailed, IsVarLimit}
use Rattle.sat_trail.proofs.Limits.{limit_of, All-unmap, vars_weaker}
use Rattle.sat_trail.proofs.Trails.{grown_all}
use Rattle.sat_trail.proofs.trail.Trail.grown.Goals as goal

pub fill_with-requires-clause-vars : goal.fill_with-requires-clause-vars
fill_with-requires-clause-vars c =
    let vars : c.in_ok-trail.trail.vars ≡ c.args.self.now.vars = ap (λ (t : Trailed). t.vars) c.in_ok-trail.ensures in
    let one = c.highest_of-highest.ensures.limit in
    let le : c.highest_of-highest.result ≤ c.in_ok-trail.trail.vars = omega (arith, vars, c.vars-2.ensures.vars, c.highest_in_steps-last.ensures.limit.at_least, c.if-last-vars.false) in
    All-weaker (HasVarsUpTo c.highest_of-highest.result) (HasVarsUpTo c.in_ok-trail.trail.vars) (λ lits. vars_weaker _ _ lits le) c.args.local.now one.within

pub fill_with_steps-requires-clause-vars : goal.fill_with_steps-requires-clause-vars
fill_with_steps-requires-clause-vars c =
    let vars_of : Trailed → ℕ = λ t. t.vars in
    let vars : c.fill_with.new.self.vars ≡ c.args.self.now.vars = ap vars_of c.in_ok-fill_with.ensures ∙ ap vars_of c.in_ok-trail.ensures in
    let two = c.highest_in_steps-last.ensures.limit in
    let le : c.highest_in_steps-last.result ≤ c.fill_with.new.self.vars = omega (arith, vars, c.vars-2.ensures.vars, c.if-last-vars.false) in
    let within = All-unmap (HasVarsUpTo c.highest_in_steps-last.result) c.steps.result.now two.within in
    let wide = All-weaker (λ (s : Step). HasVarsUpTo c.highest_in_steps-last.result s.clause) (λ (s : Step). HasVarsUpTo c.fill_with.new.self.vars s.clause) (λ s. vars_weaker _ _ s.clause le) c.steps.result.now within in
    rw c.steps-2.ensures.steps (rw c.steps.ensures.steps at wide)

pub returns-then-last-vars-clause-vars : goal.returns-then-last-vars-clause-vars
returns-then-last-vars-clause-vars c =
    let f = c.args.f.now in
    let made = c.in_ok-made.ensures in
    let one = rw c.vars.ensures.vars at c.highest_of-highest.ensures.limit in
    let two = rw c.steps.ensures.steps at c.highest_in_steps-last.ensures.limit in
    let limit : IsVarLimit f.vars (members_of (f.clauses ++ c.args.local.now) c.args.extra.now) c.highest_in_steps-last.result = limit_of f.vars c.highest_of-highest.result c.highest_in_steps-last.result f.clauses c.args.local.now c.args.extra.now c.vars.ensures.formula.within one two in
    let low : c.highest_in_steps-last.result ≤ c.in_ok-made.made.vars = limit.least c.in_ok-made.made.vars made.vars.at_least (subst (All (HasVarsUpTo c.in_ok-made.made.vars)) made.clauses made.vars.within) in
    record {
      at_least = omega (arith, low, c.vars-2.ensures.vars, c.if-last-vars.true);
      within = made.vars.within;
      least = λ n more all. made.vars.least n (omega (arith, c.requires.base.enough, more)) all;
    }

pub returns-clause-clauses : goal.returns-clause-clauses
returns-clause-clauses c =
    let last = rw c.steps-2.ensures.steps at c.in_ok-fill_with_steps.ensures in
    (grown_all c.args.f.now c.args.self.now c.in_ok-trail.trail c.fill_with.new.self c.fill_with_steps.new.self c.args.local.now c.args.extra.now c.requires.base c.in_ok-trail.ensures c.in_ok-fill_with.ensures last).clauses_are

pub returns-clause-vars : goal.returns-clause-vars
returns-clause-vars c =
    let last = rw c.steps-2.ensures.steps at c.in_ok-fill_with_steps.ensures in
    let all = grown_all c.args.f.now c.args.self.now c.in_ok-trail.trail c.fill_with.new.self c.fill_with_steps.new.self c.args.local.now c.args.extra.now c.requires.base c.in_ok-trail.ensures c.in_ok-fill_with.ensures last in
    let f = c.args.f.now in
    let one = rw c.vars.ensures.vars at c.highest_of-highest.ensures.limit in
    let two = rw c.steps.ensures.steps at c.highest_in_steps-last.ensures.limit in
    let limit : IsVarLimit f.vars (members_of (f.clauses ++ c.args.local.now) c.args.extra.now) c.highest_in_steps-last.result = limit_of f.vars c.highest_of-highest.result c.highest_in_steps-last.result f.clauses c.args.local.now c.args.extra.now c.vars.ensures.formula.within one two in
    let le : c.highest_in_steps-last.result ≤ c.fill_with_steps.new.self.vars = omega (arith, all.vars_are, c.vars-2.ensures.vars, c.if-last-vars.false) in
    record {
      at_least = omega (arith, all.vars_are);
      within = subst (All (HasVarsUpTo c.fill_with_steps.new.self.vars)) (sym all.clauses_are) (All-weaker (HasVarsUpTo c.highest_in_steps-last.result) (HasVarsUpTo c.fill_with_steps.new.self.vars) (λ lits. vars_weaker _ _ lits le) (members_of (f.clauses ++ c.args.local.now) c.args.extra.now) limit.within);
      least = λ n more rest. omega (arith, all.vars_are, more);
    }

pub returns-clause-assigned : goal.returns-clause-assigned
returns-clause-assigned c =
    let last = rw c.steps-2.ensures.steps at c.in_ok-fill_with_steps.ensures in
    (grown_all c.args.f.now c.args.self.now c.in_ok-trail.trail c.fill_with.new.self c.fill_with_steps.new.self c.args.local.now c.args.extra.now c.requires.base c.in_ok-trail.ensures c.in_ok-fill_with.ensures last).none
