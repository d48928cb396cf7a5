-- Renamings of atoms, and what they do to scenarios.
use Rattle.std.specs.Prelude.{◌≡◌, ◌↔◌, ℕ, List, map, slice_get, Some, Contains}
use Rattle.tuple_core.specs.declared.atom.Atom.{Atom}
use Rattle.rel_formula.specs.Bounds.{Bounded, IsAtomOf, relation_at, cell_of, cells_of}
use Rattle.rel_formula.specs.Instance.{HasCell, StandsIn}

-- f is a permutation of the problem's atoms that keeps each one's signature, and g is the permutation back
pub record IsRenaming (p : Bounded) (f g : Atom → Atom) : Type 0 where
  pub there : (a : Atom) → f (g a) ≡ a
  pub back : (a : Atom) → g (f a) ≡ a
  pub tops : (a : Atom) → (f a).top ≡ a.top
  pub atoms : (a : Atom) → IsAtomOf p a → IsAtomOf p (f a)
  pub atoms_back : (a : Atom) → IsAtomOf p a → IsAtomOf p (g a)

-- the renaming leaves the lower and the upper set of each relation as they are
pub record KeepsBounds (p : Bounded) (f : Atom → Atom) : Type 0 where
  pub lower : (r : ℕ) (t : List Atom) → Contains (relation_at p.relations r).lower.rows t ↔ Contains (relation_at p.relations r).lower.rows (map f t)
  pub upper : (r : ℕ) (t : List Atom) → Contains (relation_at p.relations r).upper.rows t ↔ Contains (relation_at p.relations r).upper.rows (map f t)

-- every renaming leaves the problem's bounds as they are
abbrev pub IsSymmetric : Bounded → Type 0
IsSymmetric p = (f g : Atom → Atom) → IsRenaming p f g → KeepsBounds p f

-- the second number is that of the first one's cell renamed
abbrev pub IsCellImage : Bounded → (Atom → Atom) → ℕ → ℕ → Type 0
IsCellImage p f n m = (r : ℕ) × (row : List Atom) × (slice_get (cells_of p) n ≡ Some (cell_of r row)) × (slice_get (cells_of p) m ≡ Some (cell_of r (map f row)))

-- the second scenario is the first one renamed: it has a cell's image exactly where the first one has the cell
abbrev pub IsImage : Bounded → (Atom → Atom) → List ℕ → List ℕ → Type 0
IsImage p f s t = (r : ℕ) (row : List Atom) → HasCell p (Contains s) r row ↔ HasCell p (Contains t) r (map f row)

-- some renaming takes the first scenario to the second
pub record IsRenamingOf (p : Bounded) (s t : List ℕ) : Type 0 where
  pub there : Atom → Atom
  pub back : Atom → Atom
  pub renaming : IsRenaming p there back
  pub image : IsImage p there s t

-- and keeps each atom that stands in the floor
pub record IsRenamingBeside (p : Bounded) (floor s t : List ℕ) : Type 0 where
  pub there : Atom → Atom
  pub back : Atom → Atom
  pub renaming : IsRenaming p there back
  pub image : IsImage p there s t
  pub keeps : (a : Atom) → StandsIn p floor a → there a ≡ a
