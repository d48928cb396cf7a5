-- What a trail keeps: its clauses are watched by the rule of watched literals, and its open variables wait to be decided.
use Rattle.std.specs.Prelude.{◌≡◌, length}
use Rattle.unit_propagation.specs.Assignments.Trail.{falses_of}
use Rattle.unit_propagation.specs.Propagation.Walk.{IsReady}
use Rattle.sat_trail.specs.Waiting.{IsOrderOf}
use Rattle.sat_trail.specs.declared.trail.Trail.TheInside.{Inside}

pub record IsKept (t : Inside) : Type 0 where
  pub ready : IsReady t.store t.watches t.assignment t.pending.flags t.propagated
  pub ordered : IsOrderOf t.assignment.vars (falses_of t.assignment.assigned) t.order
  pub met : length t.met_by.items ≡ t.assignment.vars
