use Rattle.std.proofs.Common.{arith}
use Rattle.unit_propagation.proofs.Clauses.Ends.{clause_within}
use Rattle.unit_propagation.proofs.clause_store.store.part.Goals as goal

pub slice_bounds-result-count : goal.slice_bounds-result-count
slice_bounds-result-count c = let in' = clause_within _ _ _ _ 0 c.requires.ends c.requires.in_range in omega (arith, in'.0, c.start_of-start.ensures)

pub slice_bounds-result-start : goal.slice_bounds-result-start
slice_bounds-result-start c = let in' = clause_within _ _ _ _ 0 c.requires.ends c.requires.in_range in omega (arith, in'.0, in'.1, c.start_of-start.ensures)

pub slice_bounds-result-end : goal.slice_bounds-result-end
slice_bounds-result-end c = let in' = clause_within _ _ _ _ 0 c.requires.ends c.requires.in_range in omega (arith, in'.1)
