-- What is kept of a graph while it is walked.
use Rattle.std.specs.Prelude.{◌≡◌, ◌⊎◌, ◌<◌, ◌≤◌, ℕ, List, [], length, slice_index_or, true, nat_eq, nat_lt, if◌then◌else◌}
use Rattle.indexmap.specs.IndexSet.{insert_key}
use Rattle.reference_cycles.specs.Cycles.Walks.{row_of, among, IsEdge}

-- ---- heights

abbrev pub height_of : List ℕ → ℕ → ℕ
height_of heights k = slice_index_or heights k 0

-- no number of the row is higher than this
abbrev pub AreAtMost : List ℕ → ℕ → List ℕ → Type 0
AreAtMost heights most row = (r : ℕ) → among r row ≡ true → height_of heights r ≤ most

-- no edge leads to a higher number
abbrev pub AreHeights : List (List ℕ) → List ℕ → Type 0
AreHeights rows heights = (k : ℕ) → AreAtMost heights (height_of heights k) (row_of rows k)

-- ---- a walk from a number

-- the numbers that were met, and one more if it has a row and is none of them
abbrev pub met_with : ℕ → List ℕ → ℕ → List ℕ
met_with count met x = if nat_lt x count then insert_key nat_eq met x else met

-- the numbers of a row that have rows themselves came behind those that were met, each once
pub record Meets (count : ℕ) (old row new : List ℕ) : Type 0 where
  pub all : (r : ℕ) → among r row ≡ true → r < count → among r new ≡ true
  pub kept : (x : ℕ) → among x old ≡ true → among x new ≡ true
  pub stays : (j d : ℕ) → j < length old → slice_index_or new j d ≡ slice_index_or old j d
  pub longer : length old ≤ length new
  pub only : (x : ℕ) → among x new ≡ true → (among x old ≡ true) ⊎ ((among x row ≡ true) × (x < count) × (length old < length new))
