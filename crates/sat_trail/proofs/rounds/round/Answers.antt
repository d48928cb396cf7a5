use Rattle.std.proofs.Common.{◌≡◌, List, arith, sym, ◌∙◌, subst}
use Rattle.unit_propagation.specs.declared.assignment_trail.assigned.Assigned.{Assigned}
use Rattle.unit_propagation.specs.Assignments.Trail.{falses_of}
use Rattle.unit_propagation.proofs.Assignments.Trails.{forces_trans}
use Rattle.unit_propagation.specs.Propagation.Closed.{IsClosedBut}
use Rattle.sat_trail.proofs.Trails.{closed_all, more_long, same_if_long}
use Rattle.sat_trail.proofs.rounds.round.Goals as goal

pub returns-in-Some-clause-round : goal.returns-in-Some-clause-round
returns-in-Some-clause-round c = c.in-Some.ensures.closed

pub follow_marked-requires-clause-ready : goal.follow_marked-requires-clause-ready
follow_marked-requires-clause-ready c = c.in_default.ensures.propagated.0

pub follow_marked-requires-clause-level : goal.follow_marked-requires-clause-level
follow_marked-requires-clause-level c = c.requires.level ∙ sym c.propagate_queue.ensures.level

pub returns-in-Some-follow_marked-clause-round : goal.returns-in-Some-follow_marked-clause-round
returns-in-Some-follow_marked-clause-round c = c.in-Some-follow_marked.ensures.found

pub returns-in-Some-follow_marked-clause-more : goal.returns-in-Some-follow_marked-clause-more
returns-in-Some-follow_marked-clause-more c = forces_trans _ _ _ c.propagate_queue.ensures.more c.follow_marked.ensures.more

pub returns-then-propagated-len-clause-round : goal.returns-then-propagated-len-clause-round
returns-then-propagated-len-clause-round c = omega (arith, more_long _ _ c.propagate_queue.ensures.more, c.in_default.ensures.propagated.1, c.if-propagated-len.true, c.len.ensures.len)

pub returns-then-propagated-len-clause-more : goal.returns-then-propagated-len-clause-more
returns-then-propagated-len-clause-more c = forces_trans _ _ _ c.propagate_queue.ensures.more c.follow_marked.ensures.more

pub returns-clause-round : goal.returns-clause-round
returns-clause-round c =
    let all = c.in_default.ensures.propagated.1 in
    let long = more_long _ _ c.follow_marked.ensures.more in
    let same : c.follow_marked.new.now.assigned ≡ c.propagate_queue.new.now.assigned = same_if_long _ _ c.follow_marked.ensures.more (omega (arith, all, c.if-propagated-len.false, c.len.ensures.len)) in
    let but : IsClosedBut c.args.store.now (falses_of c.follow_marked.new.now.assigned) c.propagate_queue.new.pending.flags = subst (λ (xs : List Assigned). IsClosedBut c.args.store.now (falses_of xs) c.propagate_queue.new.pending.flags) (sym same) c.in_default.ensures.closed in
    closed_all _ _ _ but (c.in_default-follow_marked.ensures.found (omega (arith, all, long, c.if-propagated-len.false, c.len.ensures.len)))

pub returns-clause-more : goal.returns-clause-more
returns-clause-more c = forces_trans _ _ _ c.propagate_queue.ensures.more c.follow_marked.ensures.more
