use Rattle.std.proofs.Common.{◌≡◌, ◌<◌, ◌+◌, Some, length, set, arith, ap, ◌∙◌, length-set, length-append}
use Rattle.std.proofs.lemmas.List.Elements.{All-push}
use Rattle.unit_propagation.specs.Assignments.Trail.{IsVarUpTo}
use Rattle.refutation_check.proofs.Keeping.{room_left}
use Rattle.unit_propagation.proofs.Assignments.TrailMarks.{Marks-true}
use Rattle.unit_propagation.proofs.Assignments.Trails.{AreFresh-push, falses_of-push}
use Rattle.unit_propagation.proofs.Assignments.Holding.{levels_push}
use Rattle.unit_propagation.proofs.assignment_trail.assignment.Assignment.assign.Goals as goal

pub put-requires-clause-room : goal.put-requires-clause-room
put-requires-clause-room c =
    let kept = c.self.invariant in
    let is_open = rw (← c.self.view_is) at c.requires.is_open in
    let low = rw (← c.self.view_is) at c.requires.in_range in
    let in' : c.args.a.lit.var < length c.self.inside.marks.items = omega (arith, kept.long, low.1) in
    let room = room_left _ _ _ c.args.a.lit.positive _ kept.marked is_open in' kept.open_count in
    omega (arith, room.0, kept.room)

pub invariant_of-self : goal.invariant_of-self
invariant_of-self c =
    let kept = c.self.invariant in
    let is_open = rw (← c.self.view_is) at c.requires.is_open in
    let low = rw (← c.self.view_is) at c.requires.in_range in
    let in' : c.args.a.lit.var < length c.self.inside.marks.items = omega (arith, kept.long, low.1) in
    let in_levels : c.args.a.lit.var < length c.self.inside.levels.items = omega (arith, kept.levels_long, low.1) in
    let room = room_left _ _ _ c.args.a.lit.positive _ kept.marked is_open in' kept.open_count in
    let marks : c.put.new.marks.items ≡ set c.self.inside.marks.items c.args.a.lit.var (Some c.args.a.lit.positive) = c.put.ensures.marks in
    let levels : c.put.new.levels.items ≡ set c.self.inside.levels.items c.args.a.lit.var c.args.a.level = c.put.ensures.levels in
    let more = c.put.ensures.assigned in
    let same : length c.put.new.marks.items ≡ length c.self.inside.marks.items = ap length marks ∙ simp length-set in
    let same' : length c.put.new.levels.items ≡ length c.self.inside.levels.items = ap length levels ∙ simp length-set in
    let count : length c.put.new.assigned.items ≡ length c.self.inside.assigned.items + 1 = ap length more ∙ length-append _ _ in
    record {
      marked = rw (marks, more, falses_of-push) (Marks-true _ _ _ kept.marked is_open in');
      in_range = rw more (All-push (IsVarUpTo c.self.inside.vars) _ _ kept.in_range low);
      levels = rw (levels, more) (levels_push _ _ _ kept.levels is_open in_levels);
      fresh = rw more (AreFresh-push _ _ kept.fresh is_open);
      long = same ∙ kept.long;
      levels_long = same' ∙ kept.levels_long;
      small = kept.small;
      room = omega (arith, same, kept.room, c.put.ensures.capacity);
      open_count = rw (marks, count, length-set) room.1;
    }
