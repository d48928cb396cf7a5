use Rattle.std.proofs.Common.{◌≡◌, ◌≤◌, ◌^◌, ℕ, List, sym, subst, ◌∙◌}
use Rattle.std.specs.List.{All}
use Rattle.unit_propagation.specs.Activity.Heap.{IsHeap}
use Rattle.unit_propagation.proofs.activity_order.order.ActivityOrder.copy.Goals as goal

pub invariant_of-result : goal.invariant_of-result
invariant_of-result c =
    let kept = c.self.invariant in
    let activities : c.in_ok-activities.activities.items ≡ c.self.inside.activities.items = c.in_ok-activities.ensures.items ∙ c.as_slice.ensures.value in
    record {
      heap = subst (λ (xs : List ℕ). IsHeap xs c.in_ok-heap.heap) (sym activities) (c.in_ok-heap.ensures.heap c.self.inside.activities.items kept.heap);
      activities_small = subst (All (λ a. a ≤ 2 ^ 62)) (sym activities) kept.activities_small;
      increment_small = kept.increment_small;
    }
