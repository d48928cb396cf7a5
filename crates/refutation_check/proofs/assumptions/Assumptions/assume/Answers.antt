use Rattle.std.proofs.Common.{◌≡◌, ◌<◌, ◌+◌, not, length, arith, ap, ◌∙◌, length-set, length-append}
use Rattle.std.proofs.lemmas.List.Elements.{All-push}
use Rattle.refutation_check.proofs.Keeping.{room_left}
use Rattle.refutation_check.proofs.Sights.{Marks-push}
use Rattle.refutation_check.proofs.assumptions.Assumptions.assume.Goals as goal

pub put-requires : goal.put-requires
put-requires c =
    let kept = c.self.invariant in
    let is_open = rw (← c.self.view_is) at c.requires.is_open in
    let low = rw (← c.self.view_is) at c.requires.in_range in
    let in' : c.args.l.var < length c.self.inside.marks.items = omega (arith, kept.some, low) in
    let room = room_left _ _ _ (not c.args.l.positive) _ kept.marked is_open in' kept.open_count in
    omega (arith, room.0, kept.room)

pub invariant_of-self : goal.invariant_of-self
invariant_of-self c =
    let kept = c.self.invariant in
    let is_open = rw (← c.self.view_is) at c.requires.is_open in
    let low = rw (← c.self.view_is) at c.requires.in_range in
    let in' : c.args.l.var < length c.self.inside.marks.items = omega (arith, kept.some, low) in
    let room = room_left _ _ _ (not c.args.l.positive) _ kept.marked is_open in' kept.open_count in
    let more = c.put.ensures.items in
    let count : length c.put.new.trail.items ≡ length c.self.inside.trail.items + 1 = ap length more ∙ length-append _ _ in
    record {
      marked = rw more (Marks-push _ _ _ kept.marked is_open in');
      within = rw (more, length-set) (All-push (λ l. l.var < length c.self.inside.marks.items) _ _ kept.within in');
      some = rw length-set kept.some;
      few = rw length-set kept.few;
      room = rw length-set (omega (arith, kept.room, c.put.ensures.capacity));
      open_count = rw (count, length-set) room.1;
    }

pub returns-clause-few : goal.returns-clause-few
returns-clause-few c =
    let kept = c.self.invariant in
    let is_open = rw (← c.self.view_is) at c.requires.is_open in
    let low = rw (← c.self.view_is) at c.requires.in_range in
    let in' : c.args.l.var < length c.self.inside.marks.items = omega (arith, kept.some, low) in
    let room = room_left _ _ _ (not c.args.l.positive) _ kept.marked is_open in' kept.open_count in
    let count : length c.put.new.trail.items ≡ length c.self.inside.trail.items + 1 = ap length c.put.ensures.items ∙ length-append _ _ in
    omega (arith, room.0, kept.few, count)
