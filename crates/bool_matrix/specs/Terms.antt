-- How much an operator has to do.
use Rattle.std.specs.Prelude.{◌≡◌, ℕ, List, [], ◌∷◌, ◌++◌, map, sum_by, if◌then◌else◌}
use Rattle.tuple_core.specs.declared.atom.Atom.{Atom}
use Rattle.tuple_core.specs.Operators.{Pred}
use Rattle.tuple_core.specs.Swap.{atom_eq}
use Rattle.bool_matrix.specs.Cells.{Cells}

-- the tuples that are there, in order
abbrev pub tuples : Cells → List (List Atom)
tuples m = map (λ e. e.tuple) m.entries

-- a tuple of the one set followed by one of the other, where the last atom of the first and the first atom of the second
-- are equal
abbrev pub Meeting : Pred → Pred → Pred
Meeting P Q t = (x : List Atom) × (m : Atom) × (y : List Atom) × P (x ++ m ∷ []) × Q (m ∷ y) × (t ≡ (x ++ m ∷ []) ++ m ∷ y)

-- 1 where the last atom of the first tuple is the first of the second
abbrev pub joining : List Atom → List Atom → ℕ
joining [] r = 0
joining (x ∷ []) [] = 0
joining (x ∷ []) (y ∷ ys) = if atom_eq x y then 1 else 0
joining (x ∷ y ∷ l) r = joining (y ∷ l) r

-- how many of the tuples this one joins with
abbrev pub joins_of : List Atom → List (List Atom) → ℕ
joins_of l ys = sum_by (joining l) ys

-- how many pairs of a tuple and one of the others join
abbrev pub joins : List (List Atom) → List (List Atom) → ℕ
joins xs ys = sum_by (λ l. joins_of l ys) xs
