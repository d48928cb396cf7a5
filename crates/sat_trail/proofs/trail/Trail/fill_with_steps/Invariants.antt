use Rattle.std.proofs.Common.{◌≡◌, ◌++◌, map, take}
use Rattle.sat_trail.proofs.trail.Trail.fill_with_steps.Given as goal

abbrev pub invariant-loop-step : goal.invariant-loop-step
invariant-loop-step l = l.self ≡ record l.fn.self { clauses = l.fn.self.clauses ++ map (λ s. s.clause) (take l.step-index l.steps) }
