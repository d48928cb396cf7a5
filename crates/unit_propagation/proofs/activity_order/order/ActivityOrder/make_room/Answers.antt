use Rattle.std.proofs.Common.{◌≡◌, ◌≤◌, ◌/◌, ◌^◌, ℕ, List, length, map, arith, ap, sym, ◌∙◌, subst}
use Rattle.std.proofs.lemmas.List.{with_items_is, length-map}
use Rattle.std.specs.List.{All}
use Rattle.std.specs.Vec.{with_items}
use Rattle.unit_propagation.specs.Activity.Heap.{IsHeap}
use Rattle.unit_propagation.proofs.Activity.States.{halves_small}
use Rattle.unit_propagation.proofs.activity_order.order.ActivityOrder.make_room.Goals as goal

pub invariant_of-self : goal.invariant_of-self
invariant_of-self c =
    let f : ℕ → ℕ = λ a. a / 2 in
    let halves : c.halve.new.activities ≡ map f c.self.inside.activities.items = c.halve.ensures ∙ ap (map f) c.as_mut_slice.ensures.value in
    let long : length c.halve.new.activities ≡ c.self.inside.activities.len = omega (arith, ap length c.halve.ensures, length-map c.as_mut_slice.result.now f, c.as_mut_slice.ensures.len) in
    let items : (with_items c.self.inside.activities c.halve.new.activities).items ≡ map f c.self.inside.activities.items = with_items_is c.self.inside.activities c.halve.new.activities long ∙ halves in
    record {
      heap = subst (λ (xs : List ℕ). IsHeap xs c.mend.new.self) c.as_slice.ensures.value c.mend.ensures.heap;
      activities_small = subst (All (λ a. a ≤ 2 ^ 62)) (sym items) (halves_small c.self.inside.activities.items c.self.invariant.activities_small);
      increment_small = omega (arith, c.self.invariant.increment_small);
    }
