use Rattle.std.proofs.Common.{◌+◌, ℕ, ap}
use Rattle.sat_trail.proofs.Readiness.{ready_push}
use Rattle.sat_trail.proofs.Waiting.{order_decided}
use Rattle.sat_trail.proofs.trail.Trail.decide.Goals as goal

pub invariant_of-self : goal.invariant_of-self
invariant_of-self c =
    let is_open = rw (← c.self.view_is) at c.requires.is_open in
    let level = rw (← c.self.view_is) at c.level-level.ensures.level in
    record {
      ready = rw c.assign.ensures (ready_push _ _ _ _ _ _ _ c.self.invariant.ready (is_open, ap (λ (n : ℕ). n + 1) level));
      ordered = rw c.assign.ensures (order_decided _ _ _ _ c.self.invariant.ordered);
      met = rw c.assign.ensures c.self.invariant.met;
    }
