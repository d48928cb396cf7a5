use Rattle.std.proofs.Common.{◌-◌, length}
use Rattle.reference_cycles.specs.Cycles.Walks.{rows_of}
use Rattle.reference_cycles.proofs.Cycles.NumbersMet.{Walk}
use Rattle.reference_cycles.proofs.number_cycles.walk.comes_back.Given as goal

abbrev pub invariant-loop-next : goal.invariant-loop-next
invariant-loop-next l = Walk (rows_of l.rows) l.start l.met.keys l.next

abbrev pub decreases-loop-next : goal.decreases-loop-next
decreases-loop-next l = length l.rows - l.next
