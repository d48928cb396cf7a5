use Rattle.std.proofs.Common.{◌≡◌, ◌∙◌}
use Rattle.unit_propagation.proofs.clause_store.store.Store.copy.Goals as goal

pub invariant_of-result : goal.invariant_of-result
invariant_of-result c =
    let kept = c.self.invariant in
    let codes : c.in_ok-codes.codes.items ≡ c.self.inside.codes.items = c.in_ok-codes.ensures.items ∙ c.as_slice.ensures.value in
    let ends : c.in_ok-ends.ends.items ≡ c.self.inside.ends.items = c.in_ok-ends.ensures.items ∙ c.as_slice-2.ensures.value in
    record { ends = rw (codes, ends) kept.ends; clauses = rw (codes, ends) kept.clauses; few = rw ends kept.few; small = rw codes kept.small }
