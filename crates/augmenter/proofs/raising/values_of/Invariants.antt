use Rattle.std.proofs.Common.{◌≡◌, length}
use Rattle.unit_propagation.specs.Assignments.Trail.{falses_of}
use Rattle.sat_core.specs.Search.{AreValues}
use Rattle.augmenter.proofs.raising.values_of.Given as goal

abbrev pub invariant-loop-var : goal.invariant-loop-var
invariant-loop-var l = record { long : length l.values.items ≡ l.var; values : AreValues (falses_of l.trail.assigned) l.values.items }
