use Rattle.std.proofs.Common.{◌≡◌, ◌<◌, ◌+◌, ℕ, length, get_or}
use Rattle.sat_core.specs.Assuming.{number_of}
use Rattle.sat_core.proofs.locals.Numbering.first.Given as goal

abbrev pub invariant-loop-place : goal.invariant-loop-place
invariant-loop-place l = record {
  long : length l.numbers.items ≡ l.place;
  each : (i : ℕ) → i < l.place → get_or l.numbers.items i 0 ≡ number_of l.self.clauses l.self.local l.self.places.items (i + 1);
}
