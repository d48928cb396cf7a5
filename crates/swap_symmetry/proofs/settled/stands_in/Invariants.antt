use Rattle.std.proofs.Common.{ℕ, ◌≡◌, List, All, take, slice_get, Some, Contains}
use Rattle.tuple_core.specs.declared.atom.Atom.{Atom}
use Rattle.rel_formula.specs.Bounds.{cell_of, cells_of}
use Rattle.swap_symmetry.proofs.settled.stands_in.Given as goal

abbrev pub invariant-loop-number : goal.invariant-loop-number
invariant-loop-number l = All (λ n. (r : ℕ) (t : List Atom) → slice_get (cells_of l.problem) n ≡ Some (cell_of r t) → Contains t l.atom → ⊥) (take l.number-index l.numbers)
