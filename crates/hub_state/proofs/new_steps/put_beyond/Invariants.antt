use Rattle.std.proofs.Common.{◌≡◌, ◌++◌, take}
use Rattle.hub_state.proofs.new_steps.put_beyond.Given as goal

abbrev pub invariant-loop-step : goal.invariant-loop-step
invariant-loop-step l = l.have ≡ l.fn.have ++ take l.step-index l.rest
