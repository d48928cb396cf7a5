use Rattle.std.proofs.Common.{◌-◌, length, arith, ap, length-take}
use Rattle.unit_propagation.proofs.Propagation.MarkLists.{mark_list_cut}
use Rattle.unit_propagation.proofs.watched_literals.pending.Pending.pop.Goals as goal

pub invariant_of-self : goal.invariant_of-self
invariant_of-self c =
    let kept = c.self.invariant in
    let unmarked = rw (← c.self.view_is) at c.requires.unmarked in
    let flags = c.cut_flag.ensures in
    record { marks = rw flags (mark_list_cut _ _ kept.marks unmarked); room = omega (arith, ap length flags, length-take (length c.self.inside.flags.items - 1) c.self.inside.flags.items, kept.room) }
