use Rattle.std.proofs.Common.{take}
use Rattle.translation.proofs.SwapChains.Pairs.{SaysOf}
use Rattle.translation.proofs.swap_clauses.swaps.swap_clauses.Given as goal

abbrev pub invariant-loop-pair : goal.invariant-loop-pair
invariant-loop-pair l = SaysOf l.problem l.first_variable l.next (take l.pair-index l.pairs) l.clauses.items
