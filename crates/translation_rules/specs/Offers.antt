-- Cells that a scenario can be given.
use Rattle.std.specs.Prelude.{◌↔◌, ◌<◌, ℕ, List, length, AllPairs, Contains}
use Rattle.rel_formula.specs.Bounds.{Bounded, cells_of}
use Rattle.rel_formula.specs.Instance.{IsInstance, Includes, with_cell}

-- some instance has each of these cells
pub record IsPossible (p : Bounded) (cells : List ℕ) : Type 0 where
  pub instance : List ℕ
  pub instance_of : IsInstance p instance
  pub has : Includes instance cells

-- the cell is not in the scenario, and some instance has the scenario with it
pub record IsOffer (p : Bounded) (scenario : List ℕ) (cell : ℕ) : Type 0 where
  pub in_range : cell < length (cells_of p)
  pub absent : ¬ Contains scenario cell
  pub possible : IsPossible p (with_cell cell scenario)

-- the cells are all that the scenario can be given, in order
pub record AreOffers (p : Bounded) (scenario cells : List ℕ) : Type 0 where
  pub exactly : (cell : ℕ) → Contains cells cell ↔ IsOffer p scenario cell
  pub rising : AllPairs (λ m n. m < n) cells
