use Rattle.std.proofs.Common.{◌≡◌, take, map}
use Rattle.refutation_check.specs.Lift.{lifted_hint}
use Rattle.sat_core.proofs.kept.lifted.Given as goal

abbrev pub invariant-loop-number : goal.invariant-loop-number
invariant-loop-number l = l.lifted.items ≡ map (lifted_hint l.above 1) (take l.number-index l.numbers)
