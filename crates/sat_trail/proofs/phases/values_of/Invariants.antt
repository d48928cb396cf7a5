use Rattle.std.proofs.Common.{◌≡◌, take}
use Rattle.sat_trail.proofs.phases.values_of.Given as goal

abbrev pub invariant-loop-place : goal.invariant-loop-place
invariant-loop-place l = l.values.items ≡ take l.place l.valuation
