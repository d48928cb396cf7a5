use Rattle.std.proofs.Common.{◌≡◌, take, map}
use Rattle.sat_core.specs.Assuming.{numbered}
use Rattle.sat_core.specs.Kept.{number_in}
use Rattle.sat_core.proofs.kept.renumbered_log.Given as goal

abbrev pub invariant-loop-step : goal.invariant-loop-step
invariant-loop-step l = l.log ≡ map (numbered (number_in l.numbers)) (take l.step-index l.steps)
