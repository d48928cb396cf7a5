use Rattle.std.proofs.Common.{◌+◌, Bool, not, Contains, subst}
use Rattle.unit_propagation.specs.Assignments.Trail.{falses_of}
use Rattle.unit_propagation.proofs.Assignments.Holding.{beq_same}
use Rattle.sat_core.proofs.Stops.{value_open}
use Rattle.minimiser.proofs.LoweredTrails.{closed_of, decided_false, given_leads, more_decided}
use Rattle.minimiser.proofs.lowering.gives.Goals as goal

pub returns-in-Some-clause-given : goal.returns-in-Some-clause-given
returns-in-Some-clause-given c = λ t. subst (λ (b : Bool). Contains (falses_of c.args.trail.now.assigned) (record { var = c.args.cell + 1; positive = not b })) (beq_same _ _ t) c.in-Some.ensures

pub decides-requires-clause-is_open : goal.decides-requires-clause-is_open
decides-requires-clause-is_open c = value_open _ _ c.in-None.ensures

pub returns-in-None-clause-more : goal.returns-in-None-clause-more
returns-in-None-clause-more c = more_decided c.args.trail.now c.decides.new.trail _ c.decides.ensures.forces

pub returns-in-None-clause-given : goal.returns-in-None-clause-given
returns-in-None-clause-given c = λ t. decided_false c.args.trail.now c.decides.new.trail _ c.decides.ensures.forces

pub returns-in-None-clause-led : goal.returns-in-None-clause-led
returns-in-None-clause-led c = λ floor count low there leads t.
    given_leads floor count c.args.trail.now c.decides.new.trail c.args.cell c.args.is_there low there c.decides.ensures.clauses c.decides.ensures.ordered c.decides.ensures.forces (closed_of _ _ c.decides.result c.decides.ensures.end t) leads
