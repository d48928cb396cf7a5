-- Walks along the edges of a graph. Its numbers are those that have a row, and from each an edge leads to each of its row.
use Rattle.std.specs.Prelude.{◌≡◌, ◌==◌, ◌<◌, ℕ, List, [], ◌∷◌, map, length, slice_index_or, true, Bool, Option, MatchOption, Vec}
use Rattle.std.specs.declared.alloc.Global.{Global}
use Rattle.std.specs.List.{list_any}

abbrev pub rows_of : List (Vec ℕ Global) → List (List ℕ)
rows_of = map (λ (v : Vec ℕ Global). v.items)

-- the row of a number; a number that has none has an empty one
abbrev pub row_of : List (List ℕ) → ℕ → List ℕ
row_of rows k = slice_index_or rows k []

abbrev pub among : ℕ → List ℕ → Bool
among x xs = list_any (λ y. y == x) xs

abbrev pub IsEdge : List (List ℕ) → ℕ → ℕ → Type 0
IsEdge rows k l = among l (row_of rows k) ≡ true

-- a walk of one edge or more from one number over others to a last one
abbrev pub IsWalk : List (List ℕ) → ℕ → List ℕ → ℕ → Type 0
IsWalk rows k [] l = IsEdge rows k l
IsWalk rows k (x ∷ over) l = IsEdge rows k x × IsWalk rows x over l

-- no walk leads from the number back to itself
abbrev pub IsAcyclic : List (List ℕ) → ℕ → Type 0
IsAcyclic rows k = (over : List ℕ) → IsWalk rows k over k → ⊥

-- one does, of at most as many edges as there are rows
abbrev pub IsCyclic : List (List ℕ) → ℕ → Type 0
IsCyclic rows k = (over : List ℕ) × IsWalk rows k over k × (length over < length rows)

abbrev pub NoneBelow : List (List ℕ) → ℕ → Type 0
NoneBelow rows bound = (k : ℕ) → k < bound → IsAcyclic rows k

-- the first number from which a walk leads back to itself
abbrev pub IsFirstCyclic : List (List ℕ) → Option ℕ → Type 0
IsFirstCyclic rows first = MatchOption first (NoneBelow rows (length rows)) (λ k. (k < length rows) × IsCyclic rows k × NoneBelow rows k)
