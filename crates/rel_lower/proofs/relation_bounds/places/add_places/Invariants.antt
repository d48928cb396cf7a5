use Rattle.tuple_core.specs.Rows.{SetGains}
use Rattle.rel_lower.specs.Placing.Places.{IsPlaceBelow}
use Rattle.rel_lower.proofs.relation_bounds.places.add_places.Given as goal

abbrev pub invariant-loop-place : goal.invariant-loop-place
invariant-loop-place l = SetGains l.fn.places l.places (IsPlaceBelow l.top l.place)
