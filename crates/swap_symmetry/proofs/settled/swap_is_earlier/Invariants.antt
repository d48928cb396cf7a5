use Rattle.std.proofs.Common.{ℕ, ◌<◌, ◌↔◌, Contains}
use Rattle.swap_symmetry.specs.Swaps.{IsTakenInto}
use Rattle.swap_symmetry.proofs.settled.swap_is_earlier.Given as goal

abbrev pub invariant-loop-number : goal.invariant-loop-number
invariant-loop-number l = (m : ℕ) → m < l.number → IsTakenInto l.problem l.fn.first l.fn.second (Contains l.scenario) m ↔ Contains l.scenario m
