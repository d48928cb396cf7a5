use Rattle.std.proofs.Common.{◌+◌, ℕ, ap, not}
use Rattle.sat_trail.proofs.Readiness.{ready_push}
use Rattle.sat_trail.proofs.Waiting.{open_decided, order_pushed}
use Rattle.sat_trail.proofs.trail.Trail.decide_next.Goals as goal

pub take_open-requires : goal.take_open-requires
take_open-requires c = c.self.invariant.ordered

pub invariant_of-self : goal.invariant_of-self
invariant_of-self c = record { ready = c.self.invariant.ready; ordered = c.in_err-var.ensures.order; met = c.self.invariant.met }

pub assign-requires-clause-is_open : goal.assign-requires-clause-is_open
assign-requires-clause-is_open c = open_decided _ _ c.value-positive.result c.in_ok-var.ensures.next.is_open

pub invariant_of-self-2 : goal.invariant_of-self-2
invariant_of-self-2 c =
    let level = rw (← c.self.view_is) at c.level-next_level.ensures.level in
    record {
      ready = rw c.assign.ensures (ready_push _ _ _ _ _ _ _ c.self.invariant.ready (open_decided _ _ c.value-positive.result c.in_ok-var.ensures.next.is_open, ap (λ (n : ℕ). n + 1) level));
      ordered = rw c.assign.ensures (order_pushed _ _ _ _ (c.in_ok-var.ensures.order (not c.value-positive.result)));
      met = rw c.assign.ensures c.self.invariant.met;
    }

pub returns-in_err-var-clause-next : goal.returns-in_err-var-clause-next
returns-in_err-var-clause-next c = rw (c.from_residual.ensures, ← c.self.view_is) c.in_err-var.ensures.next
