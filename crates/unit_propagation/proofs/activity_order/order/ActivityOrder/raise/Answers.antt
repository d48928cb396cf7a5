use Rattle.std.proofs.Common.{◌≡◌, ◌<◌, ◌≤◌, ◌+◌, ◌^◌, ℕ, List, length, get_or, arith, ap, sym, ◌∙◌, subst, length-set}
use Rattle.std.proofs.lemmas.List.{get_or_read}
use Rattle.std.proofs.lemmas.List.Elements.{All-set}
use Rattle.unit_propagation.specs.Activity.OrderState.{OrderState, with_room}
use Rattle.unit_propagation.specs.Activity.Heap.{IsHeap, waiting_of}
use Rattle.unit_propagation.proofs.Activity.States.{mk_state, room_long, room_waiting, sum_fits}
use Rattle.unit_propagation.proofs.Activity.Steps.{raised_rising}
use Rattle.unit_propagation.proofs.activity_order.order.ActivityOrder.raise.Goals as goal

pub lift-requires-clause-rising : goal.lift-requires-clause-rising
lift-requires-clause-rising c =
    let s : OrderState = mk_state c.self.inside.activities.items c.self.inside.increment (waiting_of c.self.inside.heap) in
    let t : OrderState = mk_state c.self-2.inside.activities.items c.self-2.inside.increment (waiting_of c.self-2.inside.heap) in
    let sum : ℕ = c.index.result.now + c.self.inside.increment in
    let room : t ≡ with_room s sum = c.self-2.view_is ∙ (c.make_room.ensures ∙ ap (λ (o : OrderState). with_room o sum) (sym c.self.view_is)) in
    let long : length c.self-2.inside.activities.items ≡ length c.self.inside.activities.items = room_long s t sum room in
    let was_long : length c.self.inside.activities.items ≡ length c.args.self.now.activities = ap (λ (o : OrderState). length o.activities) c.self.view_is in
    let in' : c.args.var < length c.self-2.inside.activities.items = omega (arith, c.requires, long, was_long) in
    let read : c.index_mut.result.now ≡ get_or c.self-2.inside.activities.items c.args.var 0 = get_or_read c.self-2.inside.activities.items c.args.var c.index_mut.result.now in' c.index_mut.ensures.value 0 in
    raised_rising c.self-2.inside.activities.items c.as_slice.result.now c.self-2.inside.heap c.args.var (c.index_mut.result.now + c.self-2.inside.increment) c.self-2.invariant.heap in' (omega (arith, read)) c.as_slice.ensures.value

pub invariant_of-self : goal.invariant_of-self
invariant_of-self c =
    let s : OrderState = mk_state c.self.inside.activities.items c.self.inside.increment (waiting_of c.self.inside.heap) in
    let t : OrderState = mk_state c.self-2.inside.activities.items c.self-2.inside.increment (waiting_of c.self-2.inside.heap) in
    let sum : ℕ = c.index.result.now + c.self.inside.increment in
    let room : t ≡ with_room s sum = c.self-2.view_is ∙ (c.make_room.ensures ∙ ap (λ (o : OrderState). with_room o sum) (sym c.self.view_is)) in
    let long : length c.self-2.inside.activities.items ≡ length c.self.inside.activities.items = room_long s t sum room in
    let was_long : length c.self.inside.activities.items ≡ length c.args.self.now.activities = ap (λ (o : OrderState). length o.activities) c.self.view_is in
    let was_in : c.args.var < length c.self.inside.activities.items = omega (arith, c.requires, was_long) in
    let in' : c.args.var < length c.self-2.inside.activities.items = omega (arith, was_in, long) in
    let was_read : c.index.result.now ≡ get_or c.self.inside.activities.items c.args.var 0 = get_or_read c.self.inside.activities.items c.args.var c.index.result.now was_in c.index.ensures 0 in
    let read : c.index_mut.result.now ≡ get_or c.self-2.inside.activities.items c.args.var 0 = get_or_read c.self-2.inside.activities.items c.args.var c.index_mut.result.now in' c.index_mut.ensures.value 0 in
    let sum_is : sum ≡ get_or c.self.inside.activities.items c.args.var 0 + c.self.inside.increment = ap (λ (n : ℕ). n + c.self.inside.increment) was_read in
    let low : get_or c.self.inside.activities.items c.args.var 0 ≤ 2 ^ 62 = c.self.invariant.activities_small c.args.var 0 was_in in
    let fits : get_or c.self-2.inside.activities.items c.args.var 0 + c.self-2.inside.increment ≤ 2 ^ 62 = sum_fits s t c.args.var sum room sum_is was_in low c.self.invariant.increment_small in
    let small : c.index_mut.result.now + c.self-2.inside.increment ≤ 2 ^ 62 = omega (arith, fits, read) in
    record {
      heap = subst (λ (xs : List ℕ). IsHeap xs c.lift.new.self) c.as_slice.ensures.value c.lift.ensures.heap;
      activities_small = All-set (λ a. a ≤ 2 ^ 62) c.self-2.inside.activities.items c.args.var (c.index_mut.result.now + c.self-2.inside.increment) small c.self-2.invariant.activities_small;
      increment_small = c.self-2.invariant.increment_small;
    }

pub returns-clause-waiting : goal.returns-clause-waiting
returns-clause-waiting c =
    let t : OrderState = mk_state c.self-2.inside.activities.items c.self-2.inside.increment (waiting_of c.self-2.inside.heap) in
    c.lift.ensures.same ∙ room_waiting c.args.self.now t (c.index.result.now + c.self.inside.increment) (c.self-2.view_is ∙ c.make_room.ensures)

pub returns-clause-vars : goal.returns-clause-vars
returns-clause-vars c =
    let t : OrderState = mk_state c.self-2.inside.activities.items c.self-2.inside.increment (waiting_of c.self-2.inside.heap) in
    length-set c.self-2.inside.activities.items c.args.var (c.index_mut.result.now + c.self-2.inside.increment) ∙ room_long c.args.self.now t (c.index.result.now + c.self.inside.increment) (c.self-2.view_is ∙ c.make_room.ensures)
