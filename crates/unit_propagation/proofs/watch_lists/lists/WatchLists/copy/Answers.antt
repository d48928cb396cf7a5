use Rattle.std.proofs.Common.{◌≡◌, ◌∙◌}
use Rattle.unit_propagation.proofs.watch_lists.lists.WatchLists.copy.Goals as goal

pub invariant_of-result : goal.invariant_of-result
invariant_of-result c =
    let kept = c.self.invariant in
    let first : c.in_ok-first.first.items ≡ c.self.inside.first.items = c.in_ok-first.ensures.items ∙ c.as_slice.ensures.value in
    let slots : c.in_ok-slots.slots.items ≡ c.self.inside.slots.items = c.in_ok-slots.ensures.items ∙ c.as_slice-2.ensures.value in
    record { lists = rw (first, slots) kept.lists; few = rw slots kept.few }
