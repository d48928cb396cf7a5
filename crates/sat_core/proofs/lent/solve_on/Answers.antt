use Rattle.std.proofs.Common.{◌≡◌, ◌+◌, ◌<◌, ◌^◌, ◌∙◌, ℕ, List, All, arith, ap, length, subst, sym}
use Rattle.std.specs.Prelude.{IfOk, OnOk}
use Rattle.cnf_core.specs.declared.literal.Lit.{Lit}
use Rattle.refutation_check.specs.Chain.{members_of}
use Rattle.sat_core.specs.Lent.{steps_of, IsEnding, IsLearnt}
use Rattle.sat_core.specs.Search.{IsVarIn}
use Rattle.sat_core.proofs.Searches.{standing_at_start}
use Rattle.sat_core.proofs.lent.solve_on.Goals as goal

pub search_on-requires-clause-in_range : goal.search_on-requires-clause-in_range
search_on-requires-clause-in_range c = subst (λ (n : ℕ). All (IsVarIn n) c.args.assumed.now) (sym c.back_to.ensures.vars) c.requires.in_range

pub search_on-requires-clause-stands : goal.search_on-requires-clause-stands
search_on-requires-clause-stands c = standing_at_start c.args.assumed.now c.args.trail.now c.back_to.new.self c.level.ensures.trail c.back_to.ensures.clauses c.back_to.ensures.assigned

pub search_on-requires-clause-few : goal.search_on-requires-clause-few
search_on-requires-clause-few c = omega (arith, c.requires.few, ap length c.back_to.ensures.clauses)

pub returns-clause-vars : goal.returns-clause-vars
returns-clause-vars c = subst (λ (n : ℕ). OnOk c.search_on.result (c.search_on.new.trail.vars ≡ n)) c.back_to.ensures.vars c.search_on.ensures.vars

pub returns-clause-clauses : goal.returns-clause-clauses
returns-clause-clauses c = subst (λ (cs : List (List Lit)). IfOk c.search_on.result (λ e. c.search_on.new.trail.clauses ≡ members_of cs (steps_of e))) c.back_to.ensures.clauses c.search_on.ensures.clauses

pub returns-clause-learnt : goal.returns-clause-learnt
returns-clause-learnt c = subst (λ (cs : List (List Lit)). IfOk c.search_on.result (λ e. IsLearnt cs c.args.assumed.now (steps_of e))) c.back_to.ensures.clauses c.search_on.ensures.learnt

pub returns-clause-end : goal.returns-clause-end
returns-clause-end c =
    subst (λ (n : ℕ). IfOk c.search_on.result (IsEnding n c.args.trail.now.clauses c.args.assumed.now c.args.budget)) c.back_to.ensures.vars
    (subst (λ (cs : List (List Lit)). IfOk c.search_on.result (IsEnding c.back_to.new.self.vars cs c.args.assumed.now c.args.budget)) c.back_to.ensures.clauses c.search_on.ensures.end)
