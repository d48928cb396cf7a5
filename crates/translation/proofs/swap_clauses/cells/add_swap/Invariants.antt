use Rattle.translation.proofs.SwapChains.CellChains.{IsChain}
use Rattle.translation.proofs.swap_clauses.cells.add_swap.Given as goal

abbrev pub invariant-loop-cell : goal.invariant-loop-cell
invariant-loop-cell l = IsChain l.problem l.first l.second l.cell l.first_variable l.so_far l.fn.clauses.items l.clauses.items
