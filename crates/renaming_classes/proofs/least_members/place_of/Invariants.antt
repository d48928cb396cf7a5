use Rattle.std.proofs.Common.{◌<◌, ◌≤◌, ◌-◌, ℕ, [], length, get_or}
use Rattle.swap_symmetry.specs.Order.{IsEarlier}
use Rattle.renaming_classes.proofs.least_members.place_of.Given as goal

abbrev pub invariant-halving : goal.invariant-halving
invariant-halving l = record {
  order : l.low ≤ l.high;
  within : l.high ≤ length l.found;
  before : (k : ℕ) → k < l.low → IsEarlier (get_or l.found k []) l.member;
  behind : (k : ℕ) → l.high ≤ k → k < length l.found → IsEarlier (get_or l.found k []) l.member → ⊥;
}

abbrev pub decreases-halving : goal.decreases-halving
decreases-halving l = l.high - l.low
