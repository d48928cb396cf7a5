use Rattle.std.proofs.Common.{◌≡◌, take}
use Rattle.tuple_core.proofs.tuple_set.TupleSet.copy.Given as goal

abbrev pub invariant-loop-tuple : goal.invariant-loop-tuple
invariant-loop-tuple l = l.tuples.items ≡ take l.tuple-index l.tuple-items
