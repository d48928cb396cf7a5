-- What a problem keeps beside its relations and its formula.
use Rattle.std.specs.Prelude.{◌≡◌, List}
use Rattle.tuple_core.specs.Rows.{Rows, IsSetOf}
use Rattle.rel_formula.specs.declared.problem.Cell.{Cell}
use Rattle.rel_formula.specs.Bounds.{Bounded, IsProblem, InAtoms, cells_of}

-- the cells in the order of their numbers, and the atoms
pub record IsKept (p : Bounded) (cells : List Cell) (atoms : Rows) : Type 0 where
  pub well : IsProblem p
  pub cells_are : cells ≡ cells_of p
  pub atoms_are : IsSetOf atoms 1 (InAtoms p)
