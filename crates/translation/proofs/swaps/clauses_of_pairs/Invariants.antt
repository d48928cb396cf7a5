use Rattle.std.proofs.Common.{take}
use Rattle.translation.proofs.Chains.{Made}
use Rattle.translation.proofs.swaps.clauses_of_pairs.Given as goal

abbrev pub invariant-loop-pair : goal.invariant-loop-pair
invariant-loop-pair l = Made l.problem l.last l.behind (take l.pair-index l.pairs) l.cnfs.items
