-- How many renamings a problem has: in how many ways the atoms of each signature can change places.
use Rattle.std.specs.Prelude.{◌≡◌, ◌*◌, ◌==◌, ℕ, zero, suc, Bool, false, List, [], ◌∷◌, length}
use Rattle.std.specs.List.{count_by}
use Rattle.tuple_core.specs.declared.atom.Atom.{Atom}
use Rattle.tuple_core.specs.Rows.{Rows, IsRows, IsSetOf}
use Rattle.rel_formula.specs.Bounds.{Bounded, InAtoms}

abbrev pub factorial : ℕ → ℕ
factorial zero = 1
factorial (suc n) = suc n * factorial n

-- whether the tuple's first atom is of the signature
abbrev pub is_of : ℕ → List Atom → Bool
is_of top [] = false
is_of top (a ∷ t) = a.top == top

-- for each signature below this one the factorial of the number of its atoms, all multiplied
abbrev pub orders : List (List Atom) → ℕ → ℕ
orders atoms zero = 1
orders atoms (suc top) = orders atoms top * factorial (count_by (is_of top) atoms)

-- the number of orders of the problem's atoms
pub record IsNumberOfRenamings (p : Bounded) (n : ℕ) : Type 0 where
  pub atoms : Rows
  pub rows : IsRows atoms
  pub all : IsSetOf atoms 1 (InAtoms p)
  pub number : n ≡ orders atoms.rows (length p.tops)
