use Rattle.std.proofs.Common.{take}
use Rattle.reference_cycles.specs.Cycles.Marks.{Meets}
use Rattle.reference_cycles.proofs.number_cycles.walk.meet.Given as goal

abbrev pub invariant-loop-number : goal.invariant-loop-number
invariant-loop-number l = Meets l.count l.fn.met.keys (take l.number-index l.row) l.met.keys
