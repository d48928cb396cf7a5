use Rattle.reference_cycles.specs.Cycles.Walks.{rows_of, NoneBelow}
use Rattle.reference_cycles.proofs.number_cycles.first.first_cyclic.Given as goal

abbrev pub invariant-loop-number : goal.invariant-loop-number
invariant-loop-number l = NoneBelow (rows_of l.rows) l.number
