use Rattle.std.proofs.Common.{◌≡◌, ◌+◌, ◌<◌, ℕ, length, get_or}
use Rattle.refutation_check.specs.Renumbering.{kept_number}
use Rattle.sat_core.proofs.trimmed.numbers_of.Given as goal

abbrev pub invariant-loop-is_marked : goal.invariant-loop-is_marked
invariant-loop-is_marked l = record {
  as_many : length l.numbers.items ≡ l.is_marked-index;
  number : l.number ≡ l.given + kept_number l.is_marked-index l.marks;
  each : (place : ℕ) → place < l.is_marked-index → get_or l.numbers.items place 0 ≡ l.given + kept_number (place + 1) l.marks;
}
