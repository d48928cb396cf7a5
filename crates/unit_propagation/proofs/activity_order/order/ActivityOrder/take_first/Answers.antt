use Rattle.std.proofs.Common.{ℕ, List, subst}
use Rattle.unit_propagation.specs.Activity.Heap.{IsHeap}
use Rattle.unit_propagation.proofs.Activity.States.{taken_is}
use Rattle.unit_propagation.proofs.activity_order.order.ActivityOrder.take_first.Goals as goal

pub invariant_of-self : goal.invariant_of-self
invariant_of-self c = record {
  heap = subst (λ (xs : List ℕ). IsHeap xs c.take_first.new.self) c.as_slice.ensures.value c.take_first.ensures.heap;
  activities_small = c.self.invariant.activities_small;
  increment_small = c.self.invariant.increment_small;
}

pub returns-clause-taken : goal.returns-clause-taken
returns-clause-taken c = rw (← c.self.view_is) (taken_is _ _ _ _ _ c.take_first.ensures.left)
