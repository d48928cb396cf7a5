use Rattle.std.proofs.Common.{◌≡◌, ◌⊎◌, ◌<◌, ◌≤◌, ◌-◌, ℕ, [], length, get_or}
use Rattle.swap_symmetry.specs.Order.{IsEarlier}
use Rattle.session_state.proofs.session_search.listing.place_of.Given as goal

abbrev pub invariant-halving : goal.invariant-halving
invariant-halving l = record {
  order : l.low ≤ l.high;
  within : l.high ≤ length l.listed;
  before : (k : ℕ) → k < l.low → IsEarlier (get_or l.listed k []) l.scenario;
  behind : (k : ℕ) → l.high ≤ k → k < length l.listed → (get_or l.listed k [] ≡ l.scenario) ⊎ IsEarlier l.scenario (get_or l.listed k []);
}

abbrev pub decreases-halving : goal.decreases-halving
decreases-halving l = l.high - l.low
