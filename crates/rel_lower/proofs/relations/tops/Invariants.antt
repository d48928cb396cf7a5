use Rattle.std.proofs.Common.{◌≡◌, take}
use Rattle.rel_lower.proofs.relations.tops.Given as goal

abbrev pub invariant-loop-number : goal.invariant-loop-number
invariant-loop-number l = l.tops.items ≡ take l.number-index l.number-items
