use Rattle.std.proofs.Common.{◌≡◌, ◌<◌, ◌↔◌, ℕ, Some, true, false, get_or, slice_get, Contains}
use Rattle.renaming_classes.proofs.orbits.Orbits.mixed.Given as goal

abbrev pub invariant-loop-number : goal.invariant-loop-number
invariant-loop-number l = (n c : ℕ) → n < l.number → slice_get l.self n ≡ Some (Some c) → get_or l.mixed.items c true ≡ false → Contains l.scenario n ↔ Contains l.scenario c
