use Rattle.std.proofs.Common.{◌≡◌, None, All, vec_len}
use Rattle.hub_tests.proofs.of_hub_lock.gather.Given as goal

abbrev pub invariant-loop-worker : goal.invariant-loop-worker
invariant-loop-worker g l = record {
  own : l.root.lock ≡ l.fn.root.lock;
  idle : l.root.view.turn ≡ None;
  ready : All (λ w. (w.pass.lock ≡ l.lock) × (w.pass.view.turn ≡ None)) l.workers.items;
}

abbrev pub decreases-loop-worker : goal.decreases-loop-worker
decreases-loop-worker g l = vec_len l.workers
