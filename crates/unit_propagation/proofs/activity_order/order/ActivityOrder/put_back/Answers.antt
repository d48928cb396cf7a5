use Rattle.std.proofs.Common.{ℕ, List, subst}
use Rattle.unit_propagation.specs.Activity.Heap.{IsHeap}
use Rattle.unit_propagation.proofs.activity_order.order.ActivityOrder.put_back.Goals as goal

pub invariant_of-self : goal.invariant_of-self
invariant_of-self c = record {
  heap = subst (λ (xs : List ℕ). IsHeap xs c.put_back.new.self) c.as_slice.ensures.value c.put_back.ensures.heap;
  activities_small = c.self.invariant.activities_small;
  increment_small = c.self.invariant.increment_small;
}
