use Rattle.std.proofs.Common.{◌-◌, length}
use Rattle.crew_run.specs.Passing.{HasRead}
use Rattle.crew_run.proofs.reading.Reading.go_on.Given as goal

abbrev pub invariant-loop-self : goal.invariant-loop-self
invariant-loop-self l = HasRead l.entries l.self

abbrev pub decreases-loop-self : goal.decreases-loop-self
decreases-loop-self l = length l.entries - l.self.read
