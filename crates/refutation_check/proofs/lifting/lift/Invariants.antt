use Rattle.std.proofs.Common.{◌≡◌, take}
use Rattle.refutation_check.specs.Lift.{lifted}
use Rattle.refutation_check.proofs.lifting.lift.Given as goal

abbrev pub invariant-loop-step : goal.invariant-loop-step
invariant-loop-step l = l.raised ≡ lifted l.base l.added (take l.step-index l.steps)
