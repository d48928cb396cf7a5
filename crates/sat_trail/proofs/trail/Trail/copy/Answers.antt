use Rattle.sat_trail.proofs.trail.Trail.copy.Goals as goal

pub invariant_of-result : goal.invariant_of-result
invariant_of-result c =
    let kept = c.self.invariant in
    record {
      ready = rw (c.in_ok-store.ensures, c.in_ok-watches.ensures, c.in_ok-assignment.ensures, c.in_ok-pending.ensures) kept.ready;
      ordered = rw (c.in_ok-assignment.ensures, c.in_ok-order.ensures) kept.ordered;
      met = rw (c.in_ok-assignment.ensures, c.in_ok-met_by.ensures.items, c.as_slice.ensures.value) kept.met;
    }
