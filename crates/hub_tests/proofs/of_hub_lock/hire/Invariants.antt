use Rattle.std.proofs.Common.{◌≡◌, ◌≤◌, ◌-◌, None, All, vec_len, vec_capacity}
use Rattle.hub_tests.proofs.of_hub_lock.hire.Given as goal

abbrev pub invariant-loop-rt : goal.invariant-loop-rt
invariant-loop-rt g l = record {
  own : l.root.lock ≡ l.fn.root.lock;
  idle : l.root.view.turn ≡ None;
  room : l.count ≤ vec_capacity l.workers;
  ready : All (λ w. (w.pass.lock ≡ l.lock) × (w.pass.view.turn ≡ None)) l.workers.items;
}

abbrev pub decreases-loop-rt : goal.decreases-loop-rt
decreases-loop-rt g l = l.count - vec_len l.workers
