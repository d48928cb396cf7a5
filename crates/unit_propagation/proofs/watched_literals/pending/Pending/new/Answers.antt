use Rattle.std.proofs.Common.{arith}
use Rattle.unit_propagation.proofs.Propagation.MarkLists.{mark_list_none}
use Rattle.unit_propagation.proofs.watched_literals.pending.Pending.new.Goals as goal

pub invariant_of-result : goal.invariant_of-result
invariant_of-result c = record { marks = rw (c.new.ensures.items, c.new-2.ensures.items) mark_list_none; room = rw c.new.ensures.items (omega arith) }
