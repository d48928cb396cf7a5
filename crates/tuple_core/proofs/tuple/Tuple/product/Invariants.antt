use Rattle.std.proofs.Common.{◌≡◌, ◌++◌, take}
use Rattle.tuple_core.proofs.tuple.Tuple.product.Given as goal

abbrev pub invariant-loop-before : goal.invariant-loop-before
invariant-loop-before l = l.atoms.items ≡ take l.before-index l.left

abbrev pub invariant-loop-after : goal.invariant-loop-after
invariant-loop-after l = l.atoms.items ≡ l.self ++ take l.after-index l.right
