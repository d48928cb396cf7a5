use Rattle.std.proofs.Common.{◌≡◌, ◌≤◌, length, take, vec_capacity}
use Rattle.unit_propagation.specs.Assignments.Cutting.{IsMarking}
use Rattle.unit_propagation.proofs.assignment_trail.assignment.cut_to.Given as goal

abbrev pub invariant-cutting : goal.invariant-cutting
invariant-cutting l = record {
  stays : l.assigned.items ≡ take (length l.assigned.items) l.fn.assigned.items;
  few : length l.assigned.items ≤ length l.fn.assigned.items;
  low : take l.count l.assigned.items ≡ take l.count l.fn.assigned.items;
  marking : IsMarking l.marks.items l.assigned.items;
  long : length l.marks.items ≡ length l.fn.marks.items;
  capacity : vec_capacity l.assigned ≡ vec_capacity l.fn.assigned;
}

abbrev pub decreases-cutting : goal.decreases-cutting
decreases-cutting l = length l.assigned.items
