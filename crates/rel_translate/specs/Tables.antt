-- What the relations of a problem hold where the inputs of a circuit are given, and the matrices that say it.
use Rattle.std.specs.Prelude.{◌≡◌, ◌<◌, ℕ, Bool, true, List, length, slice_index_or, All, IsTrue}
use Rattle.tuple_core.specs.declared.atom.Atom.{Atom}
use Rattle.tuple_core.specs.Operators.{Pred}
use Rattle.bool_circuit.specs.Network.{Network}
use Rattle.bool_circuit.specs.Value.{Stands}
use Rattle.bool_matrix.specs.Cells.{Cells, IsCells, IsMatrixOf}
use Rattle.rel_formula.specs.Bounds.{Bounded, IsProblem, IsAtomOf, HasFewAtoms, cells_of}
use Rattle.rel_formula.specs.Meaning.{Structure}
use Rattle.rel_formula.specs.Instance.{structure_of}
use Rattle.rel_terms.specs.Upper.{upper_structure}
use Rattle.rel_terms.specs.Counting.{arities_of}

-- the cells whose inputs are true are chosen
abbrev pub structure_at : Bounded → (ℕ → Bool) → Structure
structure_at p inputs = structure_of p (λ n. IsTrue (inputs n))

-- the tuples stand in order, and the matrix has this arity, these true tuples, and these that are there
pub record IsWell (network : Network) (m : Cells) (arity : ℕ) (True : (ℕ → Bool) → Pred) (There : Pred) : Type 0 where
  pub well : IsCells m
  pub is : IsMatrixOf network m arity True There

-- a node that is always true, and one for each cell that has the value of its input
pub record AreLeaves (network : Network) (p : Bounded) (always : ℕ) (inputs : List ℕ) : Type 0 where
  pub always_is : Stands network always (λ s. true)
  pub count : length inputs ≡ length (cells_of p)
  pub each : (n d : ℕ) → n < length inputs → Stands network (slice_index_or inputs n d) (λ s. s n)

-- the matrix has the value of relation r at all inputs, and what it may have is there
abbrev pub IsRelationOf : Network → Bounded → ℕ → Cells → Type 0
IsRelationOf network p r m = IsWell network m (slice_index_or (arities_of p) r 0) (λ s. (structure_at p s).values r) ((upper_structure p).values r)

-- the matrix has what the top-level signatures have together
abbrev pub IsUniverseOf : Network → Bounded → Cells → Type 0
IsUniverseOf network p m = IsWell network m 1 (λ s. (structure_at p s).universe) (upper_structure p).universe

-- a node that is always true, and the matrices of the relations and of the universe
pub record AreTables (network : Network) (p : Bounded) (always : ℕ) (relations : List Cells) (universe : Cells) : Type 0 where
  pub always_is : Stands network always (λ s. true)
  pub count : length relations ≡ length p.relations
  pub each : (r : ℕ) (d : Cells) → r < length relations → IsRelationOf network p r (slice_index_or relations r d)
  pub universe_is : IsUniverseOf network p universe

-- all that a translation of a part of the formula needs: the tables, few atoms, and variables that are atoms of the problem
pub record IsReady (network : Network) (p : Bounded) (always : ℕ) (relations : List Cells) (universe : Cells) (env : List Atom) : Type 0 where
  pub problem : IsProblem p
  pub few_atoms : HasFewAtoms p
  pub tables : AreTables network p always relations universe
  pub atoms : All (IsAtomOf p) env
