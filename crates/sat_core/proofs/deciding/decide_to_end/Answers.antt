use Rattle.std.proofs.Common.{◌+◌, ◌∙◌, None, length, arith, refl, ap, subst}
use Rattle.std.specs.Prelude.{min}
use Rattle.cnf_core.specs.declared.literal.Lit.{Lit}
use Rattle.unit_propagation.specs.declared.assignment_trail.assigned.Assigned.{Assigned}
use Rattle.unit_propagation.specs.Assignments.Trail.{ForcesMore, level_of}
use Rattle.unit_propagation.proofs.Assignments.Trails.{level_of-push}
use Rattle.sat_trail.specs.Trailed.{Trailed}
use Rattle.sat_core.proofs.Stops.{assumed_all, free_first, free_stuck, free_next, lowered}
use Rattle.sat_core.proofs.deciding.decide_to_end.Goals as goal

pub deciding-init : goal.deciding-init
deciding-init c =
    let now = c.in_default.ensures in
    record {
      vars = now.vars;
      clauses = now.clauses;
      so_far = lowered c.assume.new.trail c.args.assumed.now c.assume.new.depth c.min.result now.end (c.min.ensures ∙ ap (min c.assume.new.depth) c.level.ensures.level);
      low = omega (arith, c.min.ensures, c.level.ensures.level);
    }

pub returns-clause-end : goal.returns-clause-end
returns-clause-end c =
    let was = c.deciding.invariant in
    rw c.in_default-decide_next.ensures.decided (record { closed = was.so_far.closed; valued = c.in_default-decide_next.ensures.next }, was.so_far.closed_below, assumed_all c.deciding.trail c.args.assumed.now (length c.args.assumed.now) _ was.so_far (omega arith))

pub returns-in-Conflict-clause-end : goal.returns-in-Conflict-clause-end
returns-in-Conflict-clause-end c =
    let was = c.deciding.invariant in
    let now = c.in-Conflict.ensures in
    let literal : Lit = c.in-Some-decide_next._lit in
    let a : Assigned = record { lit = literal; level = level_of c.deciding.trail.assigned + 1; reason = None } in
    let made = c.in-Some-decide_next.ensures.decided in
    let forces = subst (λ (t : Trailed). ForcesMore t.assigned c.propagate.new.self.assigned) made now.assigned in
    free_stuck c.deciding.trail c.propagate.new.self c.args.assumed.now _ a was.so_far refl was.low (now.clauses ∙ ap (λ (t : Trailed). t.clauses) made) forces now.trail c.in-Conflict.number now.propagated (now.level ∙ ap (λ (t : Trailed). level_of t.assigned) made)

pub returns-in-Conflict-clause-first : goal.returns-in-Conflict-clause-first
returns-in-Conflict-clause-first c =
    let was = c.deciding.invariant in
    let now = c.in-Conflict.ensures in
    let literal : Lit = c.in-Some-decide_next._lit in
    let a : Assigned = record { lit = literal; level = level_of c.deciding.trail.assigned + 1; reason = None } in
    let made = c.in-Some-decide_next.ensures.decided in
    let forces = subst (λ (t : Trailed). ForcesMore t.assigned c.propagate.new.self.assigned) made now.assigned in
    free_first c.deciding.trail c.propagate.new.self c.args.assumed.now _ a was.so_far refl was.low (now.clauses ∙ ap (λ (t : Trailed). t.clauses) made) forces now.trail

pub deciding-preserved : goal.deciding-preserved
deciding-preserved c =
    let was = c.deciding.invariant in
    let now = c.in_default-propagate.ensures in
    let literal : Lit = c.in-Some-decide_next._lit in
    let a : Assigned = record { lit = literal; level = level_of c.deciding.trail.assigned + 1; reason = None } in
    let made = c.in-Some-decide_next.ensures.decided in
    let forces = subst (λ (t : Trailed). ForcesMore t.assigned c.propagate.new.self.assigned) made now.assigned in
    let same = now.clauses ∙ ap (λ (t : Trailed). t.clauses) made in
    let top = now.level ∙ ap (λ (t : Trailed). level_of t.assigned) made in
    record {
      vars = now.vars ∙ (ap (λ (t : Trailed). t.vars) made ∙ was.vars);
      clauses = same ∙ was.clauses;
      so_far = free_next c.deciding.trail c.propagate.new.self c.args.assumed.now _ a was.so_far refl was.low same forces now.trail now.propagated;
      low = omega (arith, was.low, top, level_of-push c.deciding.trail.assigned a);
    }

pub returns-clause-first : goal.returns-clause-first
returns-clause-first c = rw c.in_default-decide_next.ensures.decided c.deciding.invariant.so_far.first

pub returns-clause-trail : goal.returns-clause-trail
returns-clause-trail c = rw c.in_default-decide_next.ensures.decided c.deciding.invariant.so_far.ordered
