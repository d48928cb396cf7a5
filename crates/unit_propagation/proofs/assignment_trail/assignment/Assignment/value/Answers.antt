use Rattle.unit_propagation.proofs.assignment_trail.assignment.Assignment.value.Goals as goal

pub returns : goal.returns
returns c =
    let of = rw c.as_slice.ensures.value at c.value_in.ensures in
    rw (← c.self.view_is) (of _ c.self.invariant.marked)
