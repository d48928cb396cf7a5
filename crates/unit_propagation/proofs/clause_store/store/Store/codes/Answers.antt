use Rattle.std.proofs.Common.{◌≡◌, length, arith, ap, ◌∙◌, sym}
use Rattle.unit_propagation.proofs.Clauses.Ends.{clause_named, length-clauses_from}
use Rattle.unit_propagation.proofs.clause_store.store.Store.codes.Goals as goal

pub part-requires-clause-ends : goal.part-requires-clause-ends
part-requires-clause-ends c = rw (c.as_slice.ensures.value, c.as_slice-2.ensures.value) c.self.invariant.ends

pub part-requires-clause-in_range : goal.part-requires-clause-in_range
part-requires-clause-in_range c =
    let long : length c.args.self.now ≡ length c.self.inside.ends.items = ap length (sym c.self.view_is) ∙ length-clauses_from _ 0 _ in
    rw c.as_slice-2.ensures.value (omega (arith, long))

pub returns : goal.returns
returns c = clause_named _ _ _ _ _ c.self.view_is c.requires.from_one c.requires.in_range (rw (c.as_slice.ensures.value, c.as_slice-2.ensures.value) at c.part.ensures)
