-- Variables in a heap: those that wait stand first, each no later than the two below it, and each variable's place is kept.
use Rattle.std.specs.Prelude.{◌≡◌, ◌≢◌, ◌+◌, ◌-◌, ◌*◌, ◌<◌, ◌≤◌, ◌^◌, ℕ, Bool, List, map, length, nat_lt, slice_index_or}
use Rattle.unit_propagation.specs.declared.activity_order.heap.VarHeap.{VarHeap}

-- of two variables, the one that comes first has the greater rank
abbrev pub rank : List ℕ → ℕ → ℕ
rank activities var = slice_index_or activities var 0 * 2 ^ 32 + (2 ^ 32 - var)

-- the variable at a place, and the place of a variable
abbrev pub var_at : VarHeap → ℕ → ℕ
var_at h i = slice_index_or h.variables.items i 0

abbrev pub place_of : VarHeap → ℕ → ℕ
place_of h var = slice_index_or h.places.items var 0

-- the rank of the variable at a place
abbrev pub rank_at : List ℕ → VarHeap → ℕ → ℕ
rank_at activities h i = rank activities (var_at h i)

-- those at the first places wait
abbrev pub waiting_of : VarHeap → List Bool
waiting_of h = map (λ p. nat_lt p h.waiting) h.places.items

-- each variable stands at its place, and each place has its variable
pub record ArePlaces (variables places : List ℕ) : Type 0 where
  pub long : length places ≡ length variables
  pub at_place : (var : ℕ) → var < length variables → (slice_index_or places var 0 < length variables) × (slice_index_or variables (slice_index_or places var 0) 0 ≡ var)
  pub of_place : (i : ℕ) → i < length variables → (slice_index_or variables i 0 < length variables) × (slice_index_or places (slice_index_or variables i 0) 0 ≡ i)

pub record IsIndexed (h : VarHeap) : Type 0 where
  pub places : ArePlaces h.variables.items h.places.items
  pub few : length h.variables.items < 2 ^ 32
  pub front : h.waiting ≤ length h.variables.items

-- the place j is one of the two right below the place i
abbrev pub IsBelow : ℕ → ℕ → Type 0
IsBelow i j = (2 * i + 1 ≤ j) × (j ≤ 2 * i + 2)

-- of the first so many places, from this one on none has a rank below that of a place right below it
abbrev pub IsRankedFrom : ℕ → ℕ → (ℕ → ℕ) → Type 0
IsRankedFrom from count rank_of = (i j : ℕ) → from ≤ i → j < count → IsBelow i j → rank_of j ≤ rank_of i

-- so it is but for this place, whose rank may be above that of the place over it
pub record IsRising (count at : ℕ) (rank_of : ℕ → ℕ) : Type 0 where
  pub others : (i j : ℕ) → j < count → j ≢ at → IsBelow i j → rank_of j ≤ rank_of i
  pub past : (i j : ℕ) → j < count → IsBelow i at → IsBelow at j → rank_of j ≤ rank_of i

-- so it is but for this place, whose rank may be below that of a place right below it
pub record IsSinking (from count at : ℕ) (rank_of : ℕ → ℕ) : Type 0 where
  pub others : (i j : ℕ) → from ≤ i → j < count → i ≢ at → IsBelow i j → rank_of j ≤ rank_of i
  pub past : (i j : ℕ) → from ≤ i → j < count → IsBelow i at → IsBelow at j → rank_of j ≤ rank_of i

-- of the places right below this one, the one of the greatest rank
pub record IsTopBelow (count at : ℕ) (rank_of : ℕ → ℕ) (below : ℕ) : Type 0 where
  pub in_range : below < count
  pub is_below : IsBelow at below
  pub top : (j : ℕ) → j < count → IsBelow at j → rank_of j ≤ rank_of below

-- the waiting variables are a heap by the ranks that these activities give
pub record IsHeap (activities : List ℕ) (h : VarHeap) : Type 0 where
  pub indexed : IsIndexed h
  pub long : length activities ≡ length h.variables.items
  pub ranked : IsRankedFrom 0 h.waiting (rank_at activities h)

-- the variables at two places change places
pub record IsSwapped (one other : ℕ) (old new : VarHeap) : Type 0 where
  pub indexed : IsIndexed new
  pub long : length new.variables.items ≡ length old.variables.items
  pub count : new.waiting ≡ old.waiting
  pub at_one : var_at new one ≡ var_at old other
  pub at_other : var_at new other ≡ var_at old one
  pub elsewhere : (i : ℕ) → i ≢ one → i ≢ other → var_at new i ≡ var_at old i
  pub of_one : place_of new (var_at old one) ≡ other
  pub of_other : place_of new (var_at old other) ≡ one
  pub of_others : (var : ℕ) → var ≢ var_at old one → var ≢ var_at old other → place_of new var ≡ place_of old var

-- the same variables wait
pub record IsRearranged (old new : VarHeap) : Type 0 where
  pub indexed : IsIndexed new
  pub long : length new.variables.items ≡ length old.variables.items
  pub count : new.waiting ≡ old.waiting
  pub same : waiting_of new ≡ waiting_of old
