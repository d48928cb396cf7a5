-- The order of sets of cells.
use Rattle.std.specs.Prelude.{◌↔◌, ◌<◌, ℕ, List, Contains}

-- the first set of cells has the first cell in which the two differ
abbrev pub ComesBefore : (ℕ → Type 0) → (ℕ → Type 0) → Type 0
ComesBefore S T = (n : ℕ) × S n × (T n → ⊥) × ((m : ℕ) → m < n → S m ↔ T m)

-- and so for scenarios
abbrev pub IsEarlier : List ℕ → List ℕ → Type 0
IsEarlier s t = ComesBefore (Contains s) (Contains t)
