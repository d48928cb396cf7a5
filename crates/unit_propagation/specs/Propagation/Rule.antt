-- What two watched literals a clause are good for. Slots 2 * n and 2 * n + 1 are those of the clause at place n, from 0.
use Rattle.std.specs.Prelude.{◌≡◌, ◌+◌, ◌-◌, ◌*◌, ◌/◌, ◌%◌, ◌<◌, ◌≤◌, ◌⊎◌, ◌==◌, ℕ, Bool, true, false, List, [], Contains, length, slice_index_or, if◌then◌else◌}
use Rattle.cnf_core.specs.declared.literal.Lit.{Lit}
use Rattle.cnf_core.specs.Literal.{negation_of}
use Rattle.unit_propagation.specs.Clauses.Codes.{literal_of}
use Rattle.unit_propagation.specs.declared.assignment_trail.assigned.Assigned.{Assigned}

-- the other slot of the same clause
abbrev pub twin : ℕ → ℕ
twin x = if x % 2 == 0 then x + 1 else x - 1

-- the literal that a slot watches
abbrev pub watched : List ℕ → ℕ → Lit
watched codes x = literal_of (slice_index_or codes x 0)

-- the clause at this place is marked
abbrev pub IsMarked : List Bool → ℕ → Type 0
IsMarked marked n = slice_index_or marked n false ≡ true

-- the other watched literal is true, at a level that is not above that of the i-th of the trail
pub record IsCovered (codes : List ℕ) (assigned : List Assigned) (x i : ℕ) : Type 0 where
  pub place : ℕ
  pub in_range : place < length assigned
  pub true_there : (d : Assigned) → (slice_index_or assigned place d).lit ≡ watched codes (twin x)
  pub low : (d : Assigned) → (slice_index_or assigned place d).level ≤ (slice_index_or assigned i d).level

-- where the i-th of the trail makes the watched literal false, the other one is true, at no higher level, or the clause is marked
abbrev pub IsRightAt : List ℕ → List Assigned → List Bool → ℕ → ℕ → Type 0
IsRightAt codes assigned marked i x =
    ((d : Assigned) → negation_of (slice_index_or assigned i d).lit ≡ watched codes x) → IsMarked marked (x / 2) ⊎ IsCovered codes assigned x i

-- so it is of each slot and of each literal whose consequences were propagated, the oldest so many
abbrev pub IsWatchedRight : List ℕ → List Assigned → List Bool → ℕ → Type 0
IsWatchedRight codes assigned marked propagated = (i x : ℕ) → i < propagated → x < length codes → IsRightAt codes assigned marked i x

-- two literals of each clause of two or more are watched
pub record IsWatching (clauses : List (List Lit)) (codes : List ℕ) (n : ℕ) : Type 0 where
  pub first : Contains (slice_index_or clauses n []) (watched codes (2 * n))
  pub second : Contains (slice_index_or clauses n []) (watched codes (2 * n + 1))
  pub differ : watched codes (2 * n) ≡ watched codes (2 * n + 1) → ⊥

-- a clause of fewer literals stays marked, and its slots watch no variable
pub record IsShort (codes : List ℕ) (marked : List Bool) (n : ℕ) : Type 0 where
  pub flagged : IsMarked marked n
  pub first : slice_index_or codes (2 * n) 0 < 2
  pub second : slice_index_or codes (2 * n + 1) 0 < 2

abbrev pub AreWatched : List (List Lit) → List ℕ → List Bool → Type 0
AreWatched clauses codes marked = (n : ℕ) → n < length clauses → IsShort codes marked n ⊎ IsWatching clauses codes n
