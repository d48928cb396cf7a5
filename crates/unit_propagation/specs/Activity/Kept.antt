-- What an order keeps: the heap is one by the activities, and no number is above 2 ^ 62.
use Rattle.std.specs.Prelude.{◌≤◌, ◌^◌, All}
use Rattle.unit_propagation.specs.declared.activity_order.order.ActivityOrder.TheInside.{Inside}
use Rattle.unit_propagation.specs.Activity.Heap.{IsHeap}

pub record IsKept (o : Inside) : Type 0 where
  pub heap : IsHeap o.activities.items o.heap
  pub activities_small : All (λ a. a ≤ 2 ^ 62) o.activities.items
  pub increment_small : o.increment ≤ 2 ^ 62
