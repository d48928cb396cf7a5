use Rattle.std.proofs.Common.{◌≡◌, ◌-◌, None}
use Rattle.hub_tests.proofs.of_hub_lock.work.Given as goal

abbrev pub invariant-loop-worker : goal.invariant-loop-worker
invariant-loop-worker g l = record { own : l.worker.pass.lock ≡ l.fn.worker.pass.lock; idle : l.worker.pass.view.turn ≡ None }

abbrev pub decreases-loop-worker : goal.decreases-loop-worker
decreases-loop-worker g l = l.steps - l.worker.steps
