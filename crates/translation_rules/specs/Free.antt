-- Sets of swaps as tests, and the swaps that leave a floor alone.
use Rattle.std.specs.Prelude.{ℕ, List, [], Bool, not, ◌&&◌, IsTrue, slice_index_or}
use Rattle.std.specs.List.{list_any}
use Rattle.tuple_core.specs.declared.atom.Atom.{Atom}
use Rattle.tuple_core.specs.Swap.{atom_eq}
use Rattle.rel_formula.specs.Bounds.{Bounded, cell_of, cells_of}
use Rattle.swap_symmetry.specs.Swaps.{AreNeighbours}

-- two neighbours whose swap the test picks
abbrev pub IsPicked : Bounded → (Atom → Atom → Bool) → Atom → Atom → Type 0
IsPicked p picks a b = AreNeighbours p a b × IsTrue (picks a b)

-- the tuple of the cell of a number, and no atoms past the end
abbrev pub tuple_at : Bounded → ℕ → List Atom
tuple_at p n = (slice_index_or (cells_of p) n (cell_of 0 [])).tuple

-- whether the atom stands in a cell of the floor
abbrev pub stands_in : Bounded → List ℕ → Atom → Bool
stands_in p floor a = list_any (λ n. list_any (atom_eq a) (tuple_at p n)) floor

-- whether neither atom stands in the floor, so that the swap of the two leaves it alone
abbrev pub is_free_of : Bounded → List ℕ → Atom → Atom → Bool
is_free_of p floor a b = not (stands_in p floor a) && not (stands_in p floor b)
