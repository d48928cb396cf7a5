use Rattle.std.proofs.Common.{◌≡◌, take, map}
use Rattle.tuple_core.specs.Swap.{swap_atoms}
use Rattle.tuple_core.proofs.tuple.Tuple.swapped.Given as goal

abbrev pub invariant-loop-atom : goal.invariant-loop-atom
invariant-loop-atom l = l.atoms.items ≡ map (swap_atoms l.a l.b) (take l.atom-index l.atom-items)
