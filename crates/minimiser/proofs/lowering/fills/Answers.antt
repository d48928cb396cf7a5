use Rattle.std.proofs.Common.{◌∙◌, refl, ap, subst, arith}
use Rattle.unit_propagation.specs.Assignments.Trail.{ForcesMore}
use Rattle.sat_trail.specs.Trailed.{Trailed}
use Rattle.minimiser.proofs.LoweredTrails.{more_decided, valued_low}
use Rattle.minimiser.proofs.lowering.fills.Goals as goal

pub filling-init : goal.filling-init
filling-init c = record { vars = refl; clauses = refl; more = λ l h. h; closed = c.requires.closed; valued = λ var low high. absurd (omega arith) }

pub filling-preserved : goal.filling-preserved
filling-preserved c =
    let was = c.filling.invariant in
    let now = c.in-Closed.ensures in
    let made = c.in-Some.ensures.decided in
    let forces = subst (λ (t : Trailed). ForcesMore t.assigned c.propagate.new.self.assigned) made now.assigned in
    record {
      vars = now.vars ∙ (ap (λ (t : Trailed). t.vars) made ∙ was.vars);
      clauses = now.clauses ∙ (ap (λ (t : Trailed). t.clauses) made ∙ was.clauses);
      more = λ l h. more_decided c.filling.trail c.propagate.new.self _ forces l (was.more l h);
      closed = now.propagated;
      valued = valued_low c.args.vars c.filling.trail c.propagate.new.self _ c.in-Some.ensures.next forces;
    }

pub returns-in-Conflict-clause-more : goal.returns-in-Conflict-clause-more
returns-in-Conflict-clause-more c =
    let forces = subst (λ (t : Trailed). ForcesMore t.assigned c.propagate.new.self.assigned) c.in-Some.ensures.decided c.in-Conflict.ensures.assigned in
    λ l h. more_decided c.filling.trail c.propagate.new.self _ forces l (c.filling.invariant.more l h)

pub returns-clause-more : goal.returns-clause-more
returns-clause-more c = rw c.in_default.ensures.decided c.filling.invariant.more

pub returns-clause-closed : goal.returns-clause-closed
returns-clause-closed c = λ t. rw c.in_default.ensures.decided c.filling.invariant.closed

pub returns-clause-valued : goal.returns-clause-valued
returns-clause-valued c = λ t. rw c.in_default.ensures.decided c.in_default.ensures.next
