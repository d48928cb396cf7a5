use Rattle.std.proofs.Common.{take}
use Rattle.reference_cycles.specs.Cycles.Marks.{AreAtMost}
use Rattle.reference_cycles.proofs.number_cycles.heights.at_most.Given as goal

abbrev pub invariant-loop-number : goal.invariant-loop-number
invariant-loop-number l = AreAtMost l.heights l.most (take l.number-index l.row)
