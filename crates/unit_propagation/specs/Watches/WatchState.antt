-- What watch lists are, as their callers see them.
use Rattle.std.specs.Prelude.{◌≡◌, ◌<◌, ◌≤◌, Contains, ◌+◌, ◌++◌, ℕ, zero, suc, List, [], ◌∷◌, slice_index_or, slice_set, length}
use Rattle.std.specs.List.{remove}

-- the code that each slot watches, and for each code the slots that watch it
pub record WatchState : Type 0 where
  pub codes : List ℕ
  pub lists : List (List ℕ)

-- the slots that watch this code
abbrev pub list_at : List (List ℕ) → ℕ → List ℕ
list_at lists code = slice_index_or lists code []

-- the link at this place of a list: a slot's number and 1, or 0 at the end
abbrev pub link_at : List ℕ → ℕ → ℕ
link_at [] k = 0
link_at (x ∷ xs) zero = x + 1
link_at (x ∷ xs) (suc k) = link_at xs k

-- the slot at this place of the one list comes to the front of the other
abbrev pub moved : List (List ℕ) → ℕ → ℕ → ℕ → ℕ → List (List ℕ)
moved lists from at x to = slice_set (slice_set lists from (remove (list_at lists from) at)) to (x ∷ list_at lists to)

-- a slot comes to the front of this list
abbrev pub added : List (List ℕ) → ℕ → ℕ → List (List ℕ)
added lists code x = slice_set lists code (x ∷ list_at lists code)

-- one slot more, at the front of the list of the code that it watches
abbrev pub with_slot : WatchState → ℕ → WatchState
with_slot w code = record { codes = w.codes ++ code ∷ []; lists = added w.lists code (length w.codes) }

-- each slot is on the list of what it watches, and on no other
pub record IsListed (w : WatchState) : Type 0 where
  pub own : (code x : ℕ) → code < length w.lists → Contains (list_at w.lists code) x → (x < length w.codes) × (slice_index_or w.codes x 0 ≡ code)
  pub all : (x : ℕ) → x < length w.codes → (slice_index_or w.codes x 0 < length w.lists) × Contains (list_at w.lists (slice_index_or w.codes x 0)) x
  pub short : (code : ℕ) → code < length w.lists → length (list_at w.lists code) ≤ length w.codes
