use Rattle.std.proofs.Common.{◌≡◌, ◌<◌, ℕ, [], length, get_or, take}
use Rattle.renaming_classes.specs.Orbits.{AreOrbits}
use Rattle.renaming_classes.proofs.placing.all_orbits.Given as goal

abbrev pub invariant-loop-placed : goal.invariant-loop-placed
invariant-loop-placed l = record {
  long : length l.orbits.items ≡ l.placed;
  each : (m : ℕ) → m < l.placed → AreOrbits l.problem (take m l.atoms) (get_or l.orbits.items m []);
}
