use Rattle.std.proofs.Common.{◌≤◌, ◌^◌, ℕ, List, arith, sym, subst}
use Rattle.std.proofs.lemmas.List.Elements.{All-replicate}
use Rattle.std.specs.List.{All}
use Rattle.unit_propagation.specs.Activity.Heap.{IsHeap}
use Rattle.unit_propagation.proofs.activity_order.order.ActivityOrder.new.Goals as goal

pub invariant_of-result : goal.invariant_of-result
invariant_of-result c = record {
  heap = subst (λ (xs : List ℕ). IsHeap xs c.in_ok-all.field-0) (sym c.in_ok-zeros.ensures) c.in_ok-all.ensures.heap;
  activities_small = subst (All (λ a. a ≤ 2 ^ 62)) (sym c.in_ok-zeros.ensures) (All-replicate (λ a. a ≤ 2 ^ 62) c.args.vars 0 (omega arith));
  increment_small = omega arith;
}
