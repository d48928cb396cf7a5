-- What a clause more brings.
use Rattle.std.specs.Prelude.{◌≡◌, ◌≢◌, ◌+◌, ◌<◌, ℕ, Bool, true, List, Contains, MatchBool, length}
use Rattle.unit_propagation.specs.Propagation.Rule.{IsMarked}
use Rattle.sat_trail.specs.declared.filling.Pair.{Pair}

-- what the slots of a clause watch: two of its literals, or no variable where it is short
abbrev pub IsPair : List ℕ → Pair → Type 0
IsPair codes pair = MatchBool pair.is_short ((pair.one < 2) × (pair.other < 2)) (Contains codes pair.one × Contains codes pair.other × (pair.other ≢ pair.one))

-- one clause more, marked where that is asked, and the others are marked as before
pub record IsFlagged (old new : List Bool) (is_marked : Bool) : Type 0 where
  pub long : length new ≡ length old + 1
  pub stays : (n : ℕ) → IsMarked old n → IsMarked new n
  pub marked : is_marked ≡ true → IsMarked new (length old)
