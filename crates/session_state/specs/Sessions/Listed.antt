-- The order in which scenarios are listed.
use Rattle.std.specs.Prelude.{◌↔◌, ℕ, Bool, true, false, List, [], ◌∷◌, nat_lt, if◌then◌else◌, AllPairs, Contains}
use Rattle.swap_symmetry.specs.Order.{IsEarlier}

-- whether the first list has the first number in which the two differ; both rise
abbrev pub comes_first : List ℕ → List ℕ → Bool
comes_first [] ys = false
comes_first (x ∷ xs) [] = true
comes_first (x ∷ xs) (y ∷ ys) = if nat_lt x y then true else (if nat_lt y x then false else comes_first xs ys)

-- the list has the same scenarios, the earlier ones first
pub record AreInOrder (all listed : List (List ℕ)) : Type 0 where
  pub same : (x : List ℕ) → Contains listed x ↔ Contains all x
  pub sorted : AllPairs IsEarlier listed
