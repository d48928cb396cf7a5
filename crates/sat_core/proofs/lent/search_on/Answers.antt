use Rattle.std.proofs.Common.{◌≡◌, ◌+◌, ℕ, All, length, take, arith, ap, subst, sym, ◌∙◌, length-append}
use Rattle.unit_propagation.specs.Assignments.Trail.{falses_of}
use Rattle.sat_core.specs.Assuming.{IsClash}
use Rattle.sat_core.specs.Count.{raised}
use Rattle.sat_core.specs.Search.{IsDeadEnd, IsStuck, IsVarIn}
use Rattle.sat_core.proofs.Counts.{raised_none, raised_more, raised_within}
use Rattle.sat_core.proofs.Descents.{closed_no_chain}
use Rattle.sat_core.proofs.Searches.{searching_from, searching_more, learnt_more, members_long, found_model, clash_so_far}
use Rattle.sat_core.proofs.lent.search_on.Goals as goal

pub learning-init : goal.learning-init
learning-init c = record {
  searching = searching_from _ _ _ _ c.new-log.ensures c.requires.in_range c.requires.stands;
  few = omega (arith, ap length c.new-log.ensures);
  counted = raised_none c.args.count.now c.steps.ensures.most ∙ ap (raised c.args.count.now) (sym (ap length c.new-log.ensures));
}

pub learning-preserved : goal.learning-preserved
learning-preserved c =
    let now = c.in-Some.ensures in
    let stuck : IsStuck _ c.decide_to_end.new.trail c.in-Conflict.number = subst (IsDeadEnd _ c.decide_to_end.new.trail) c.in-Conflict.is now.end in
    let kept = c.in_ok-keep-in-Conflict.ensures in
    let more : length c.keep.new.log ≡ length c.learning.log + 1 = ap length kept.log ∙ length-append c.learning.log _ in
    record {
      searching = searching_more _ _ _ _ _ _ c.learning.invariant.searching _ now.clauses now.vars now.trail _ stuck _ c.in_ok-step-in-Conflict.ensures _ _ _ now.first kept.trail kept.log;
      few = omega (arith, more, ap length c.steps-in-Conflict.ensures.steps, c.learning.invariant.few, c.if-steps-budget.false);
      counted = c.rise.ensures ∙ ap (λ n. raised n 1) c.learning.invariant.counted ∙ raised_more c.args.count.now (length c.learning.log) ∙ ap (raised c.args.count.now) (sym more);
    }

pub learning-smaller : goal.learning-smaller
learning-smaller c =
    let more : length c.keep.new.log ≡ length c.learning.log + 1 = ap length c.in_ok-keep-in-Conflict.ensures.log ∙ length-append c.learning.log _ in
    omega (arith, more, ap length c.steps-in-Conflict.ensures.steps, c.learning.invariant.few, c.if-steps-budget.false)

pub decide_to_end-requires-clause-in_range : goal.decide_to_end-requires-clause-in_range
decide_to_end-requires-clause-in_range c =
    let was = c.learning.invariant.searching in
    subst (λ (n : ℕ). All (IsVarIn n) c.args.assumed.now) (sym was.vars_are) was.in_range

pub decide_to_end-requires-clause-closed_below : goal.decide_to_end-requires-clause-closed_below
decide_to_end-requires-clause-closed_below c = c.learning.invariant.searching.closed_below

pub decide_to_end-requires-clause-first : goal.decide_to_end-requires-clause-first
decide_to_end-requires-clause-first c = c.learning.invariant.searching.assumed_first

pub found-requires-clause-full : goal.found-requires-clause-full
found-requires-clause-full c = c.in_default.ensures.end.0

pub found-requires-clause-assumed : goal.found-requires-clause-assumed
found-requires-clause-assumed c = c.in_default.ensures.end.2

pub next_step-requires-clause-conflict : goal.next_step-requires-clause-conflict
next_step-requires-clause-conflict c =
    let stuck : IsStuck _ c.decide_to_end.new.trail c.in-Conflict.number = subst (IsDeadEnd _ c.decide_to_end.new.trail) c.in-Conflict.is c.in-Some.ensures.end in
    stuck.refuted

pub next_step-requires-clause-closed_below : goal.next_step-requires-clause-closed_below
next_step-requires-clause-closed_below c =
    let stuck : IsStuck _ c.decide_to_end.new.trail c.in-Conflict.number = subst (IsDeadEnd _ c.decide_to_end.new.trail) c.in-Conflict.is c.in-Some.ensures.end in
    stuck.closed_below

pub next_step-requires-clause-deep : goal.next_step-requires-clause-deep
next_step-requires-clause-deep c =
    let stuck : IsStuck _ c.decide_to_end.new.trail c.in-Conflict.number = subst (IsDeadEnd _ c.decide_to_end.new.trail) c.in-Conflict.is c.in-Some.ensures.end in
    closed_no_chain c.decide_to_end.new.trail.clauses (falses_of (take stuck.place c.decide_to_end.new.trail.assigned)) stuck.closed

pub keep-requires-clause-closed_below : goal.keep-requires-clause-closed_below
keep-requires-clause-closed_below c =
    let stuck : IsStuck _ c.decide_to_end.new.trail c.in-Conflict.number = subst (IsDeadEnd _ c.decide_to_end.new.trail) c.in-Conflict.is c.in-Some.ensures.end in
    stuck.closed_below

pub keep-requires-clause-log : goal.keep-requires-clause-log
keep-requires-clause-log c = omega (arith, c.requires.few, ap length c.steps-in-Conflict.ensures.steps, c.learning.invariant.few, c.if-steps-budget.false)

pub keep-requires-clause-clauses : goal.keep-requires-clause-clauses
keep-requires-clause-clauses c =
    let now = c.in-Some.ensures in
    let long = members_long _ _ _ _ _ _ c.learning.invariant.searching c.decide_to_end.new.trail now.clauses now.vars now.trail in
    omega (arith, long, c.requires.few, ap length c.steps-in-Conflict.ensures.steps, c.learning.invariant.few, c.if-steps-budget.false)

pub returns-in_default-clause-vars : goal.returns-in_default-clause-vars
returns-in_default-clause-vars c = c.in_default.ensures.vars ∙ c.learning.invariant.searching.vars_are

pub returns-in_default-clause-clauses : goal.returns-in_default-clause-clauses
returns-in_default-clause-clauses c = c.in_default.ensures.clauses ∙ c.learning.invariant.searching.clauses_are

pub returns-in_default-clause-learnt : goal.returns-in_default-clause-learnt
returns-in_default-clause-learnt c = c.learning.invariant.searching.learnt

pub returns-in_default-clause-budget : goal.returns-in_default-clause-budget
returns-in_default-clause-budget c = c.learning.invariant.few

pub returns-in_default-clause-end : goal.returns-in_default-clause-end
returns-in_default-clause-end c =
    let now = c.in_default.ensures in
    found_model _ _ _ _ _ _ c.learning.invariant.searching _ now.clauses now.vars now.trail c.in_ok-valuation.valuation c.in_ok-valuation.ensures

pub returns-then-steps-budget-clause-vars : goal.returns-then-steps-budget-clause-vars
returns-then-steps-budget-clause-vars c = c.in-Some.ensures.vars ∙ c.learning.invariant.searching.vars_are

pub returns-then-steps-budget-clause-clauses : goal.returns-then-steps-budget-clause-clauses
returns-then-steps-budget-clause-clauses c = c.in-Some.ensures.clauses ∙ c.learning.invariant.searching.clauses_are

pub returns-then-steps-budget-clause-learnt : goal.returns-then-steps-budget-clause-learnt
returns-then-steps-budget-clause-learnt c = c.learning.invariant.searching.learnt

pub returns-then-steps-budget-clause-budget : goal.returns-then-steps-budget-clause-budget
returns-then-steps-budget-clause-budget c = c.learning.invariant.few

pub returns-then-steps-budget-clause-end : goal.returns-then-steps-budget-clause-end
returns-then-steps-budget-clause-end c =
    let now = c.in-Some.ensures in
    let stuck : IsStuck _ c.decide_to_end.new.trail c.in-Conflict.number = subst (IsDeadEnd _ c.decide_to_end.new.trail) c.in-Conflict.is now.end in
    let more = learnt_more _ _ _ _ _ _ c.learning.invariant.searching _ now.clauses now.vars now.trail _ stuck _ c.in_ok-step-in-Conflict.ensures in
    (omega (arith, ap length c.steps-in-Conflict.ensures.steps, c.if-steps-budget.true), c.in_ok-step-in-Conflict.step, more)

pub returns-in-Clash-clause-vars : goal.returns-in-Clash-clause-vars
returns-in-Clash-clause-vars c = c.in-Some.ensures.vars ∙ c.learning.invariant.searching.vars_are

pub returns-in-Clash-clause-clauses : goal.returns-in-Clash-clause-clauses
returns-in-Clash-clause-clauses c = c.in-Some.ensures.clauses ∙ c.learning.invariant.searching.clauses_are

pub returns-in-Clash-clause-learnt : goal.returns-in-Clash-clause-learnt
returns-in-Clash-clause-learnt c = c.learning.invariant.searching.learnt

pub returns-in-Clash-clause-budget : goal.returns-in-Clash-clause-budget
returns-in-Clash-clause-budget c = c.learning.invariant.few

pub returns-in-Clash-clause-end : goal.returns-in-Clash-clause-end
returns-in-Clash-clause-end c =
    let now = c.in-Some.ensures in
    let clash : IsClash c.decide_to_end.new.trail.clauses _ = subst (IsDeadEnd _ c.decide_to_end.new.trail) c.in-Clash.is now.end in
    clash_so_far _ _ _ _ _ _ c.learning.invariant.searching _ now.clauses now.vars now.trail clash

pub returns-in_default-clause-count : goal.returns-in_default-clause-count
returns-in_default-clause-count c = c.learning.invariant.counted

pub returns-in_default-clause-spent : goal.returns-in_default-clause-spent
returns-in_default-clause-spent c = rw c.learning.invariant.counted (raised_within c.args.count.now (length c.learning.log) c.args.budget c.learning.invariant.few)

pub returns-then-steps-budget-clause-count : goal.returns-then-steps-budget-clause-count
returns-then-steps-budget-clause-count c = c.learning.invariant.counted

pub returns-then-steps-budget-clause-spent : goal.returns-then-steps-budget-clause-spent
returns-then-steps-budget-clause-spent c = rw c.learning.invariant.counted (raised_within c.args.count.now (length c.learning.log) c.args.budget c.learning.invariant.few)

pub returns-in-Clash-clause-count : goal.returns-in-Clash-clause-count
returns-in-Clash-clause-count c = c.learning.invariant.counted

pub returns-in-Clash-clause-spent : goal.returns-in-Clash-clause-spent
returns-in-Clash-clause-spent c = rw c.learning.invariant.counted (raised_within c.args.count.now (length c.learning.log) c.args.budget c.learning.invariant.few)

pub returns-in_default-clause-stands : goal.returns-in_default-clause-stands
returns-in_default-clause-stands c = record { closed_below = c.in_default.ensures.end.1; assumed_first = c.in_default.ensures.first }
