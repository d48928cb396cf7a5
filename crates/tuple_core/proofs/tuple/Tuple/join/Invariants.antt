use Rattle.std.proofs.Common.{◌≡◌, ◌++◌, take}
use Rattle.tuple_core.proofs.tuple.Tuple.join.Given as goal

abbrev pub invariant-loop-before : goal.invariant-loop-before
invariant-loop-before l = l.atoms.items ≡ take l.before-index l.before-items

abbrev pub invariant-loop-after : goal.invariant-loop-after
invariant-loop-after l = l.atoms.items ≡ take l.end l.self ++ take l.after-index l.after-items
