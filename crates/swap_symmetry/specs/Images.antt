-- A table of the images of the cells under the swaps of neighbours.
use Rattle.std.specs.Prelude.{◌≡◌, ◌↔◌, ℕ, map, length, slice_get, Some, All, Contains}
use Rattle.tuple_core.specs.declared.atom.Atom.{Atom}
use Rattle.tuple_core.specs.Swap.{swap_atoms}
use Rattle.rel_formula.specs.Bounds.{Bounded, cells_of}
use Rattle.rel_formula.specs.Renaming.{IsCellImage}
use Rattle.swap_symmetry.specs.Swaps.{AreNeighbours}
use Rattle.swap_symmetry.specs.declared.images.SwapRow.{SwapRow}
use Rattle.swap_symmetry.specs.declared.images.SwapImages.{SwapImages}

-- the atoms that the row swaps
abbrev pub pair_in : SwapRow → Atom × Atom
pair_in row = (row.first, row.second)

-- the row has an entry for each cell: the number of the cell's image under the swap, if there is such a cell
pub record IsSwapRow (p : Bounded) (row : SwapRow) : Type 0 where
  pub count : length row.images.items ≡ length (cells_of p)
  pub images : (n m : ℕ) → (slice_get row.images.items n ≡ Some (Some m)) ↔ IsCellImage p (swap_atoms row.first row.second) n m

-- the rows are those of the swaps of all neighbours
pub record AreImages (p : Bounded) (images : SwapImages) : Type 0 where
  pub exactly : (a b : Atom) → Contains (map pair_in images.rows.items) (a, b) ↔ AreNeighbours p a b
  pub rows : All (IsSwapRow p) images.rows.items
