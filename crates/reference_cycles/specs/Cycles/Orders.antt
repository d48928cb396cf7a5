-- Orders of the numbers in which the row of each stands before it.
use Rattle.std.specs.Prelude.{◌≡◌, ◌<◌, ℕ, List, Bool, true, false, length, take, slice_index_or}
use Rattle.reference_cycles.specs.Cycles.Walks.{row_of, among}

-- the rows of the first n numbers stand before them
abbrev pub StandBefore : List (List ℕ) → ℕ → List ℕ → Type 0
StandBefore rows n order = (i d : ℕ) → i < n → (r : ℕ) → among r (row_of rows (slice_index_or order i d)) ≡ true → among r (take i order) ≡ true

-- each number stands once, and behind those of its row
pub record IsOrder (rows : List (List ℕ)) (order : List ℕ) : Type 0 where
  pub long : length order ≡ length rows
  pub all : (k : ℕ) → k < length rows → among k order ≡ true
  pub before : StandBefore rows (length order) order

-- the numbers that are marked are among these
abbrev pub AreMarked : List ℕ → List Bool → Type 0
AreMarked numbers marks = (k : ℕ) → slice_index_or marks k false ≡ true → among k numbers ≡ true

-- all numbers of a row are marked
abbrev pub IsMarked : List Bool → List ℕ → Type 0
IsMarked marks row = (r : ℕ) → among r row ≡ true → slice_index_or marks r false ≡ true
