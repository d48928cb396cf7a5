use Rattle.std.proofs.Common.{◌≡◌, ◌++◌, List, arith, ap, ◌∙◌}
use Rattle.unit_propagation.specs.declared.assignment_trail.assigned.Assigned.{Assigned}
use Rattle.unit_propagation.proofs.assignment_trail.assignment.Assignment.copy.Goals as goal

pub invariant_of-result : goal.invariant_of-result
invariant_of-result c =
    let kept = c.self.invariant in
    let marks : c.in_ok-marks.marks.items ≡ c.self.inside.marks.items = c.in_ok-marks.ensures.items ∙ c.as_slice.ensures.value in
    let levels : c.in_ok-levels.levels.items ≡ c.self.inside.levels.items = c.in_ok-levels.ensures.items ∙ c.as_slice-2.ensures.value in
    let assigned : c.extend_from_slice.new.self.items ≡ c.self.inside.assigned.items = c.in_ok-extend_from_slice.ensures.items ∙ (ap (λ (xs : List Assigned). xs ++ c.as_slice-3.result.now) c.in_ok-assigned.ensures.items ∙ c.as_slice-3.ensures.value) in
    record {
      marked = rw (marks, assigned) kept.marked;
      in_range = rw assigned kept.in_range;
      fresh = rw assigned kept.fresh;
      levels = rw (levels, assigned) kept.levels;
      long = rw marks kept.long;
      levels_long = rw levels kept.levels_long;
      small = kept.small;
      room = rw marks (omega (arith, c.in_ok-assigned.ensures.capacity, c.extend_from_slice.ensures.capacity, c.len.ensures, kept.long));
      open_count = rw (marks, assigned) kept.open_count;
    }
