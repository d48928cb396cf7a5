use Rattle.std.proofs.Common.{arith, get_or, length-set}
use Rattle.unit_propagation.proofs.Propagation.MarkLists.{mark_list_unmark, marked_in}
use Rattle.unit_propagation.proofs.watched_literals.pending.Pending.unmark.Goals as goal

pub index_mut-requires : goal.index_mut-requires
index_mut-requires c =
    let in' = rw (← c.self.view_is) at c.requires in
    let marked = marked_in c.self.inside.flags.items (get_or c.self.inside.list.items c.args.i c.swap_remove-n.result) (c.self.invariant.marks.only c.args.i c.swap_remove-n.result in') in
    omega (arith, marked, c.swap_remove-n.ensures.value)

pub invariant_of-self : goal.invariant_of-self
invariant_of-self c =
    let kept = c.self.invariant in
    let in' = rw (← c.self.view_is) at c.requires in
    record {
      marks = rw c.swap_remove-n.ensures.items (mark_list_unmark _ _ c.args.i c.swap_remove-n.result in' c.swap_remove-n.ensures.value kept.marks);
      room = simp length-set (omega (arith, kept.room, c.swap_remove-n.ensures.capacity));
    }
