use Rattle.std.proofs.Common.{◌≡◌, None}
use Rattle.hub_tests.proofs.of_hub_lock.come_and_go.Given as goal

abbrev pub invariant-loop-step : goal.invariant-loop-step
invariant-loop-step g l = record { own : l.root.lock ≡ l.fn.root.lock; idle : l.root.view.turn ≡ None }
