use Rattle.std.proofs.Common.{◌≡◌, ◌≤◌, ◌^◌, arith, ap, sym, ◌∙◌}
use Rattle.unit_propagation.specs.Activity.OrderState.{OrderState, with_room, next_increment}
use Rattle.unit_propagation.specs.Activity.Heap.{waiting_of}
use Rattle.unit_propagation.proofs.Activity.States.{mk_state, next_fits, room_long, room_waiting}
use Rattle.unit_propagation.proofs.activity_order.order.ActivityOrder.decay.Goals as goal

pub invariant_of-self : goal.invariant_of-self
invariant_of-self c =
    let s : OrderState = mk_state c.self.inside.activities.items c.self.inside.increment (waiting_of c.self.inside.heap) in
    let t : OrderState = mk_state c.self-2.inside.activities.items c.self-2.inside.increment (waiting_of c.self-2.inside.heap) in
    let room : t ≡ with_room s c.after-next.result = c.self-2.view_is ∙ (c.make_room.ensures ∙ ap (λ (o : OrderState). with_room o c.after-next.result) (sym c.self.view_is)) in
    let fits : next_increment c.self-2.inside.increment ≤ 2 ^ 62 = next_fits s t c.after-next.result room c.after-next.ensures c.self.invariant.increment_small in
    record {
      heap = c.self-2.invariant.heap;
      activities_small = c.self-2.invariant.activities_small;
      increment_small = omega (arith, fits, c.after-self-inside.ensures);
    }

pub returns-clause-waiting : goal.returns-clause-waiting
returns-clause-waiting c =
    let t : OrderState = mk_state c.self-2.inside.activities.items c.self-2.inside.increment (waiting_of c.self-2.inside.heap) in
    room_waiting c.args.self.now t c.after-next.result (c.self-2.view_is ∙ c.make_room.ensures)

pub returns-clause-vars : goal.returns-clause-vars
returns-clause-vars c =
    let t : OrderState = mk_state c.self-2.inside.activities.items c.self-2.inside.increment (waiting_of c.self-2.inside.heap) in
    room_long c.args.self.now t c.after-next.result (c.self-2.view_is ∙ c.make_room.ensures)
