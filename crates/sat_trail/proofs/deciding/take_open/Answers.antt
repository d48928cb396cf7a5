use Rattle.std.proofs.Common.{◌+◌, ◌*◌, arith, refl}
use Rattle.sat_trail.proofs.Waiting.{all_valued, closed_code, fewer_wait, open_code, order_skipped, order_taken}
use Rattle.sat_trail.proofs.deciding.take_open.Goals as goal

pub taking-preserved : goal.taking-preserved
taking-preserved c =
    let valued = closed_code _ (c.in-Some.place + 1) (2 * (c.in-Some.place + 1)) c.value.result _ refl c.value.ensures c.is_none.ensures c.if-is_none.false in
    rw c.in-Some.ensures.taken (order_skipped _ _ c.taking.order c.in-Some.place valued c.taking.invariant)

pub taking-smaller : goal.taking-smaller
taking-smaller c = rw c.in-Some.ensures.taken (fewer_wait c.taking.order.waiting c.in-Some.place c.in-Some.ensures.first.in_range c.in-Some.ensures.first.waits)

pub returns-then-is_none-clause-next : goal.returns-then-is_none-clause-next
returns-then-is_none-clause-next c =
    record {
      from_one = omega arith;
      in_range = omega (arith, c.in-Some.ensures.first.in_range, c.taking.invariant.as_many);
      is_open = open_code _ (c.in-Some.place + 1) (2 * (c.in-Some.place + 1)) c.value.result _ refl c.value.ensures c.is_none.ensures c.if-is_none.true;
    }

pub returns-then-is_none-clause-order : goal.returns-then-is_none-clause-order
returns-then-is_none-clause-order c = rw c.in-Some.ensures.taken (λ value. order_taken _ _ c.taking.order c.in-Some.place value c.taking.invariant)

pub returns-clause-next : goal.returns-clause-next
returns-clause-next c = all_valued _ _ _ c.taking.invariant c.in_default.ensures.first

pub returns-clause-order : goal.returns-clause-order
returns-clause-order c = rw c.in_default.ensures.taken c.taking.invariant
