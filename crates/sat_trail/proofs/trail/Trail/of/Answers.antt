use Rattle.std.proofs.Common.{◌≡◌, ℕ, All, arith, ap, ◌∙◌}
use Rattle.cnf_core.specs.Literal.{HasVarsUpTo}
use Rattle.sat_trail.specs.Trailed.{Trailed}
use Rattle.sat_trail.proofs.Limits.{limit_of, All-unmap}
use Rattle.sat_trail.proofs.Trails.{filled_all}
use Rattle.sat_trail.proofs.trail.Trail.of.Goals as goal

pub fill_from-requires-clause-vars : goal.fill_from-requires-clause-vars
fill_from-requires-clause-vars c =
    let vars = ap (λ (t : Trailed). t.vars) c.in_ok-trail.ensures in
    omega (arith, vars, c.vars.ensures.vars, c.highest_of.ensures.limit.at_least, c.highest_in_steps-vars.ensures.limit.at_least)

pub fill_with_steps-requires-clause-vars : goal.fill_with_steps-requires-clause-vars
fill_with_steps-requires-clause-vars c =
    let vars_of : Trailed → ℕ = λ t. t.vars in
    let vars : c.fill_with.new.self.vars ≡ c.highest_in_steps-vars.result = ap vars_of c.in_ok-fill_with.ensures ∙ (ap vars_of c.in_ok-fill_from.ensures ∙ ap vars_of c.in_ok-trail.ensures) in
    let within : All (λ s. HasVarsUpTo c.highest_in_steps-vars.result s.clause) c.steps.result.now = All-unmap (HasVarsUpTo c.highest_in_steps-vars.result) c.steps.result.now c.highest_in_steps-vars.ensures.limit.within in
    rw (vars, c.steps-2.ensures.steps) (rw c.steps.ensures.steps at within)

pub returns-clause-vars : goal.returns-clause-vars
returns-clause-vars c =
    let vars : ℕ = c.highest_in_steps-vars.result in
    let last = rw c.steps-2.ensures.steps at c.in_ok-fill_with_steps.ensures in
    let all = filled_all vars c.in_ok-trail.trail c.fill_from.new.self c.fill_with.new.self c.fill_with_steps.new.self c.args.f.now.clauses c.args.local.now c.args.extra.now c.in_ok-trail.ensures c.in_ok-fill_from.ensures c.in_ok-fill_with.ensures last in
    let one = rw c.vars.ensures.vars at c.highest_of.ensures.limit in
    let two = rw c.steps.ensures.steps at c.highest_in_steps-vars.ensures.limit in
    rw all (limit_of c.args.f.now.vars c.highest_of.result vars c.args.f.now.clauses c.args.local.now c.args.extra.now c.vars.ensures.formula.within one two)
