use Rattle.std.proofs.Common.{◌+◌, Bool, not, Contains, subst}
use Rattle.unit_propagation.specs.Assignments.Trail.{falses_of}
use Rattle.sat_core.proofs.Stops.{value_open}
use Rattle.minimiser.proofs.LoweredTrails.{decided_false, more_decided}
use Rattle.augmenter.proofs.raising.gives.Goals as goal

pub returns-in-Some-clause-given : goal.returns-in-Some-clause-given
returns-in-Some-clause-given c = λ t. subst (λ (b : Bool). Contains (falses_of c.args.trail.now.assigned) (record { var = c.args.cell + 1; positive = not b })) t c.in-Some.ensures

pub decides-requires-clause-is_open : goal.decides-requires-clause-is_open
decides-requires-clause-is_open c = value_open _ _ c.in-None.ensures

pub returns-in-None-clause-more : goal.returns-in-None-clause-more
returns-in-None-clause-more c = more_decided c.args.trail.now c.decides.new.trail _ c.decides.ensures.forces

pub returns-in-None-clause-given : goal.returns-in-None-clause-given
returns-in-None-clause-given c = λ t. decided_false c.args.trail.now c.decides.new.trail _ c.decides.ensures.forces
