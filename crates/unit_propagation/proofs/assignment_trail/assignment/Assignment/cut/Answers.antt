use Rattle.std.proofs.Common.{arith, ◌∙◌}
use Rattle.std.proofs.lemmas.List.Elements.{All-take}
use Rattle.unit_propagation.specs.Assignments.Trail.{IsVarUpTo}
use Rattle.unit_propagation.proofs.Assignments.Holding.{levels_cut, within_held}
use Rattle.unit_propagation.proofs.Assignments.Trails.{AreFresh-cut}
use Rattle.unit_propagation.proofs.assignment_trail.assignment.Assignment.cut.Goals as goal

pub cut_to-requires-clause-marking : goal.cut_to-requires-clause-marking
cut_to-requires-clause-marking c =
    let kept = c.self.invariant in
    record { marked = kept.marked; in_range = within_held _ _ _ kept.long kept.in_range; open_count = kept.open_count }

pub invariant_of-self : goal.invariant_of-self
invariant_of-self c =
    let kept = c.self.invariant in
    let less = c.cut_to.ensures.assigned in
    let marking = c.cut_to.ensures.marking in
    record {
      marked = marking.marked;
      in_range = rw less (All-take (IsVarUpTo c.self.inside.vars) c.args.count _ kept.in_range);
      levels = rw less (levels_cut _ _ c.args.count kept.levels);
      fresh = rw less (AreFresh-cut _ c.args.count kept.fresh);
      long = c.cut_to.ensures.long ∙ kept.long;
      levels_long = kept.levels_long;
      small = kept.small;
      room = omega (arith, c.cut_to.ensures.long, c.cut_to.ensures.capacity, kept.room);
      open_count = marking.open_count;
    }
