use Rattle.std.proofs.Common.{◌≡◌, ◌++◌, ℕ, List, arith, ap, ◌∙◌}
use Rattle.unit_propagation.proofs.watched_literals.pending.Pending.copy.Goals as goal

pub invariant_of-result : goal.invariant_of-result
invariant_of-result c =
    let kept = c.self.invariant in
    let flags : c.in_ok-flags.flags.items ≡ c.self.inside.flags.items = c.in_ok-flags.ensures.items ∙ c.as_slice.ensures.value in
    let list : c.extend_from_slice.new.self.items ≡ c.self.inside.list.items = c.in_ok-extend_from_slice.ensures.items ∙ (ap (λ (xs : List ℕ). xs ++ c.as_slice-2.result.now) c.in_ok-list.ensures.items ∙ c.as_slice-2.ensures.value) in
    record { marks = rw (flags, list) kept.marks; room = rw flags (omega (arith, c.in_ok-list.ensures.capacity, c.extend_from_slice.ensures.capacity, c.len.ensures)) }
