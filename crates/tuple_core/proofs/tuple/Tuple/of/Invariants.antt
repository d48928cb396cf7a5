use Rattle.std.proofs.Common.{◌≡◌, take}
use Rattle.tuple_core.proofs.tuple.Tuple.of.Given as goal

abbrev pub invariant-loop-atom : goal.invariant-loop-atom
invariant-loop-atom l = l.copy.items ≡ take l.atom-index l.atoms
