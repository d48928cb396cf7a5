use Rattle.std.proofs.Common.{◌≡◌, ◌++◌, take}
use Rattle.clause_pool.proofs.steps.add_up_to.Given as goal

abbrev pub invariant-loop-step : goal.invariant-loop-step
invariant-loop-step l = l.to ≡ l.fn.to ++ take l.step-index l.front
