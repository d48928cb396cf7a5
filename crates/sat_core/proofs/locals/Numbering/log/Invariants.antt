use Rattle.std.proofs.Common.{◌≡◌, take, map}
use Rattle.sat_core.specs.Assuming.{number_of, numbered}
use Rattle.sat_core.proofs.locals.Numbering.log.Given as goal

abbrev pub invariant-loop-step : goal.invariant-loop-step
invariant-loop-step l = l.steps ≡ map (numbered (number_of l.self.clauses l.self.local l.self.places.items)) (take l.step-index l.log)
