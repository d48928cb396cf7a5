use Rattle.std.proofs.Common.{◌≡◌, true, length, set, arith, ◌∙◌, ap, length-set}
use Rattle.unit_propagation.proofs.Propagation.MarkLists.{mark_list_push, mark_list_room, not_marked}
use Rattle.unit_propagation.proofs.watched_literals.pending.Pending.mark.Goals as goal

pub put_mark-requires-clause-room : goal.put_mark-requires-clause-room
put_mark-requires-clause-room c =
    let kept = c.self.invariant in
    let in' = rw (← c.self.view_is) at c.requires in
    let unmarked = not_marked _ _ _ in' c.index-is_marked.ensures c.if-not-is_marked.true in
    let room = mark_list_room _ _ _ in' unmarked kept.marks in
    omega (arith, room, kept.room)

pub invariant_of-self : goal.invariant_of-self
invariant_of-self c =
    let kept = c.self.invariant in
    let in' = rw (← c.self.view_is) at c.requires in
    let unmarked = not_marked _ _ _ in' c.index-is_marked.ensures c.if-not-is_marked.true in
    let flags : c.put_mark.new.flags.items ≡ set c.self.inside.flags.items c.args.n true = c.put_mark.ensures.flags in
    let long : length c.put_mark.new.flags.items ≡ length c.self.inside.flags.items = ap length flags ∙ length-set _ _ _ in
    record {
      marks = rw (flags, c.put_mark.ensures.list) (mark_list_push _ _ _ in' unmarked kept.marks);
      room = omega (arith, long, kept.room, c.put_mark.ensures.capacity);
    }
