use Rattle.std.proofs.Common.{◌<◌, ◌+◌, ℕ, arith, ap, get_or, length, subst, sym}
use Rattle.unit_propagation.specs.declared.assignment_trail.assigned.Assigned.{Assigned}
use Rattle.unit_propagation.specs.Assignments.Trail.{IsBackTo}
use Rattle.sat_trail.specs.Levels.{IsHighestBelowTwo}
use Rattle.sat_trail.specs.Trailed.{Trailed}
use Rattle.sat_trail.proofs.Backjumps.{closed_put, level_top}
use Rattle.sat_trail.proofs.trail.Trail.add_given.Goals as goal

pub level_below_two-level-requires-clause-vars : goal.level_below_two-level-requires-clause-vars
level_below_two-level-requires-clause-vars c = rw c.lits.ensures.lits (rw (← c.self.view_is) at c.requires.vars)

pub level_below_two-level-requires-clause-clause : goal.level_below_two-level-requires-clause-clause
level_below_two-level-requires-clause-clause c = rw c.lits.ensures.lits c.lits.ensures.clause

pub level_below_two-level-requires-clause-next : goal.level_below_two-level-requires-clause-next
level_below_two-level-requires-clause-next c = rw (← c.self.view_is) at (ap (λ (n : ℕ). n + 1) c.level-next.ensures.level)

pub level_below_two-level-requires-clause-above : goal.level_below_two-level-requires-clause-above
level_below_two-level-requires-clause-above c =
    let above : (i : ℕ) (d : Assigned) → i < length c.args.self.now.assigned → (get_or c.args.self.now.assigned i d).level < c.level-next.result + 1 =
    λ i d h. let low = level_top c.args.self.now.clauses c.args.self.now.assigned c.level-next.ensures.trail i d h in omega (arith, low, c.level-next.ensures.level) in
    rw (← c.self.view_is) at above

pub returns-in_err-put-clause-assigned : goal.returns-in_err-put-clause-assigned
returns-in_err-put-clause-assigned c =
    let level = c.level_below_two-level.result in
    let highest : IsHighestBelowTwo c.args.self.now.assigned c.args.clause.now level = rw (← c.self.view_is) (rw c.lits.ensures.lits at c.level_below_two-level.ensures) in
    (level, subst (λ (t : Trailed). IsBackTo level c.args.self.now.assigned t.assigned) (sym c.in_err-put.ensures.err) c.back_to.ensures.assigned, highest)

pub returns-clause-assigned : goal.returns-clause-assigned
returns-clause-assigned c =
    let level = c.level_below_two-level.result in
    let highest : IsHighestBelowTwo c.args.self.now.assigned c.args.clause.now level = rw (← c.self.view_is) (rw c.lits.ensures.lits at c.level_below_two-level.ensures) in
    (level, subst (λ (t : Trailed). IsBackTo level c.args.self.now.assigned t.assigned) (sym c.in_ok-put.ensures.ok) c.back_to.ensures.assigned, highest)

pub returns-clause-closed : goal.returns-clause-closed
returns-clause-closed c =
    let old : Trailed = c.args.self.now in
    let level = c.level_below_two-level.result in
    let highest : IsHighestBelowTwo c.args.self.now.assigned c.args.clause.now level = rw (← c.self.view_is) (rw c.lits.ensures.lits at c.level_below_two-level.ensures) in
    closed_put old c.back_to.new.self c.put.new.self c.args.clause.now level c.level-next.ensures.trail highest.below_two c.back_to.ensures.assigned c.back_to.ensures.clauses c.in_ok-put.ensures.ok
