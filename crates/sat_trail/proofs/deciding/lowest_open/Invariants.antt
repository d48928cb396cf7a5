use Rattle.unit_propagation.specs.Assignments.Trail.{falses_of}
use Rattle.sat_trail.specs.Deciding.{HasAllValues}
use Rattle.sat_trail.proofs.deciding.lowest_open.Given as goal

abbrev pub invariant-loop-place : goal.invariant-loop-place
invariant-loop-place l = HasAllValues l.place (falses_of l.now.assigned)
