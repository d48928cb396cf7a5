use Rattle.std.proofs.Common.{◌≤◌, ◌++◌, ◌∙◌, ℕ, List, All, arith, ap, length, subst, sym}
use Rattle.cnf_core.specs.declared.literal.Lit.{Lit}
use Rattle.refutation_check.specs.Chain.{members_of}
use Rattle.sat_core.specs.Count.{raised}
use Rattle.sat_core.specs.Lent.{IsEnding, IsLearnt, steps_of}
use Rattle.sat_core.specs.Search.{IsVarIn}
use Rattle.sat_core.proofs.Answered.{given_count}
use Rattle.sat_core.proofs.search.solve_from.Goals as goal

pub trail_of-requires-clause-few : goal.trail_of-requires-clause-few
trail_of-requires-clause-few c = omega (arith, c.requires.few, c.in_ok-locals.ensures.split.few, ap length c.as_slice-others.ensures.value)

pub solve_on-requires-clause-few : goal.solve_on-requires-clause-few
solve_on-requires-clause-few c =
    omega (arith, ap length c.in_ok-trail.ensures.clauses, given_count c.args.f.now.clauses c.as_slice-others.result.now c.args.pool.now, c.requires.few, c.in_ok-locals.ensures.split.few, ap length c.as_slice-others.ensures.value)

pub answer_of-requires-clause-formula : goal.answer_of-requires-clause-formula
answer_of-requires-clause-formula c = c.in_ok-locals.ensures.clauses ∙ c.len.ensures.len

pub answer_of-requires-clause-vars : goal.answer_of-requires-clause-vars
answer_of-requires-clause-vars c = subst (λ (n : ℕ). c.args.f.now.vars ≤ n) (sym c.in_ok-ending.ensures.vars) c.in_ok-trail.ensures.vars

pub answer_of-requires-clause-in_range : goal.answer_of-requires-clause-in_range
answer_of-requires-clause-in_range c =
    subst (λ (n : ℕ). All (IsVarIn n) c.in_ok-locals.locals.assumed.items) (sym c.in_ok-ending.ensures.vars) (subst (λ (ls : List Lit). All (IsVarIn c.in_ok-trail.trail.vars) ls) c.as_slice-assumed.ensures.value c.in_ok-trail.ensures.in_range)

pub answer_of-requires-clause-learnt : goal.answer_of-requires-clause-learnt
answer_of-requires-clause-learnt c =
    let kept = c.in_ok-trail.ensures.clauses ∙ ap (λ (cs : List (List Lit)). members_of (c.args.f.now.clauses ++ cs) c.args.pool.now) c.as_slice-others.ensures.value in
    subst (λ (cs : List (List Lit)). IsLearnt cs c.in_ok-locals.locals.assumed.items (steps_of c.in_ok-ending.ending)) kept
    (subst (λ (ls : List Lit). IsLearnt c.in_ok-trail.trail.clauses ls (steps_of c.in_ok-ending.ending)) c.as_slice-assumed.ensures.value c.in_ok-ending.ensures.learnt)

pub answer_of-requires-clause-end : goal.answer_of-requires-clause-end
answer_of-requires-clause-end c =
    let kept = c.in_ok-trail.ensures.clauses ∙ ap (λ (cs : List (List Lit)). members_of (c.args.f.now.clauses ++ cs) c.args.pool.now) c.as_slice-others.ensures.value in
    subst (λ (n : ℕ). IsEnding n (members_of (c.args.f.now.clauses ++ c.in_ok-locals.locals.others.items) c.args.pool.now) c.in_ok-locals.locals.assumed.items c.args.budget c.in_ok-ending.ending) (sym c.in_ok-ending.ensures.vars)
    (subst (λ (cs : List (List Lit)). IsEnding c.in_ok-trail.trail.vars cs c.in_ok-locals.locals.assumed.items c.args.budget c.in_ok-ending.ending) kept
    (subst (λ (ls : List Lit). IsEnding c.in_ok-trail.trail.vars c.in_ok-trail.trail.clauses ls c.args.budget c.in_ok-ending.ending) c.as_slice-assumed.ensures.value c.in_ok-ending.ensures.end))

pub follow-requires : goal.follow-requires
follow-requires c = c.in_ok-answer.ensures.answer.small

pub returns-clause-log : goal.returns-clause-log
returns-clause-log c = c.in_ok-answer.ensures.answer.log

pub returns-clause-in_range : goal.returns-clause-in_range
returns-clause-in_range c = c.in_ok-answer.ensures.answer.in_range

pub returns-clause-budget : goal.returns-clause-budget
returns-clause-budget c = c.in_ok-answer.ensures.answer.few

pub returns-clause-answer : goal.returns-clause-answer
returns-clause-answer c = c.in_ok-answer.ensures.answer.right

pub returns-clause-stopped : goal.returns-clause-stopped
returns-clause-stopped c = c.in_ok-answer.ensures.answer.stopped

pub returns-clause-units : goal.returns-clause-units
returns-clause-units c = c.in_ok-answer.ensures.answer.units

pub returns-clause-last : goal.returns-clause-last
returns-clause-last c = c.in_ok-answer.ensures.answer.last

pub returns-clause-count : goal.returns-clause-count
returns-clause-count c = c.in_ok-ending.ensures.count ∙ ap (raised c.args.count.now) (sym c.in_ok-answer.ensures.learnt)
