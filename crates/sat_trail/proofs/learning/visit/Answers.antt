use Rattle.std.proofs.Common.{false, None, get_or, arith, false}
use Rattle.unit_propagation.specs.declared.assignment_trail.assigned.Assigned.{Assigned}
use Rattle.sat_trail.proofs.Learned.{learning_skip, learning_keep, learning_resolve, placed_forced, named_in, unseen_at, seen_at, resolved_why, kept_first, decided_first}
use Rattle.sat_trail.proofs.learning.visit.Goals as goal
use Rattle.sat_trail.proofs.learning.visit.Goals.{in_default-via-in-Some+else-is_resolved, in_default-via-in_default}

pub codes-requires-clause-in_range : goal.codes-requires-clause-in_range
codes-requires-clause-in_range c =
    let is = rw c.assigned-assigned.ensures.assigned at c.in-Some.is in
    let forced = placed_forced _ _ _ _ (c.assigned-assigned.ensures.trail c.args.n (record { lit = record { var = 0; positive = false }; level = 0; reason = None }) c.requires.in_range) is in
    named_in _ _ _ forced.named

pub returns-in_ok-push-in-Some-clause-so_far : goal.returns-in_ok-push-in-Some-clause-so_far
returns-in_ok-push-in-Some-clause-so_far c =
    let is = rw c.assigned-assigned.ensures.assigned at c.in-Some.is in
    let forced = placed_forced _ _ _ _ (c.assigned-assigned.ensures.trail c.args.n (record { lit = record { var = 0; positive = false }; level = 0; reason = None }) c.requires.in_range) is in
    let d : Assigned = record { lit = record { var = 0; positive = false }; level = 0; reason = None } in
    let range = c.assigned-assigned.ensures.in_range c.args.n d c.requires.in_range in
    let seen = rw c.assigned-assigned.ensures.assigned at c.index.ensures in
    let marked = seen_at c.args.seen.now.items (get_or c.args.trail.now.assigned c.args.n d).lit.var _ (omega (arith, range.1, c.requires.long)) seen c.if-index.true in
    let marking = c.mark.ensures.marking in
    rw c.in_ok-push-in-Some.ensures.items (learning_resolve _ _ c.assigned-assigned.ensures.trail _ _ _ _ _ _ c.requires.in_range c.requires.so_far _ _ _ forced c.codes.ensures.clause marking (resolved_why c.args.trail.now.assigned c.args.n _ _ _ (rw (c.assigned-assigned.ensures.assigned, c.as_slice.ensures.value, c.as_slice-in-Some-1.ensures.value) at c.if-is_resolved.ensures)) marked)

pub returns-in_ok-push-in_default-clause-so_far : goal.returns-in_ok-push-in_default-clause-so_far
returns-in_ok-push-in_default-clause-so_far c =
    let d : Assigned = record { lit = record { var = 0; positive = false }; level = 0; reason = None } in
    let range = c.assigned-assigned.ensures.in_range c.args.n d c.requires.in_range in
    let is = rw c.assigned-assigned.ensures.assigned at c.index.ensures in
    let marked = seen_at c.args.seen.now.items (get_or c.args.trail.now.assigned c.args.n d).lit.var _ (omega (arith, range.1, c.requires.long)) is c.if-index.true in
    let kept = learning_keep _ _ c.assigned-assigned.ensures.trail _ _ _ _ _ d c.requires.in_range c.requires.so_far marked
    (elim c.in_default.branch [
      | in_default-via-in-Some+else-is_resolved w ↦ kept_first _ _ c.assigned-assigned.ensures.trail c.args.n d _ _ c.requires.in_range (rw (c.assigned-assigned.ensures.assigned, w.as_slice.ensures.value, w.as_slice-in-Some-1.ensures.value) at w.if-is_resolved.ensures)
      | in_default-via-in_default w ↦ decided_first _ _ c.assigned-assigned.ensures.trail c.args.n d c.args.seen.now.items _ c.requires.in_range (rw c.assigned-assigned.ensures.assigned at w.in_default.is)
    ]) in
    let same = rw c.assigned-assigned.ensures.assigned at c.negation.ensures in
    rw (c.in_ok-push-in_default.ensures.items, same) kept

pub returns-else-index-clause-so_far : goal.returns-else-index-clause-so_far
returns-else-index-clause-so_far c =
    let d : Assigned = record { lit = record { var = 0; positive = false }; level = 0; reason = None } in
    let range = c.assigned-assigned.ensures.in_range c.args.n d c.requires.in_range in
    let is = rw c.assigned-assigned.ensures.assigned at c.index.ensures in
    learning_skip _ _ c.assigned-assigned.ensures.trail _ _ _ _ _ d c.requires.in_range c.requires.so_far
    (unseen_at c.args.seen.now.items (get_or c.args.trail.now.assigned c.args.n d).lit.var _ (omega (arith, range.1, c.requires.long)) is c.if-index.false)
