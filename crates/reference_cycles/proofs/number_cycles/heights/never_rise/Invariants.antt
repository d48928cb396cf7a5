use Rattle.reference_cycles.specs.Cycles.Walks.{rows_of}
use Rattle.reference_cycles.proofs.Cycles.EdgeHeights.{AreBelow}
use Rattle.reference_cycles.proofs.number_cycles.heights.never_rise.Given as goal

abbrev pub invariant-loop-number : goal.invariant-loop-number
invariant-loop-number l = AreBelow (rows_of l.rows) l.heights l.number
