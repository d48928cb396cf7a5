-- Bounded problems and their cells.
use Rattle.std.specs.Prelude.{◌≡◌, ◌≢◌, ◌<◌, ◌≤◌, ◌+◌, ℕ, List, [], ◌∷◌, ◌++◌, map, filter, length, slice_index, slice_index_or, not, All, AllPairs, Contains}
use Rattle.std.specs.List.{list_any}
use Rattle.std.specs.Ordering.{eq_by_cmp}
use Rattle.tuple_core.specs.declared.atom.Atom.{Atom}
use Rattle.tuple_core.specs.Operators.{Pred}
use Rattle.tuple_core.specs.Order.{tuple_cmp}
use Rattle.tuple_core.specs.Rows.{Rows, IsRows}
use Rattle.rel_formula.specs.declared.problem.Relation.{Relation}
use Rattle.rel_formula.specs.declared.problem.Cell.{Cell}
use Rattle.rel_formula.specs.Kernel.{FormulaTree}
use Rattle.rel_formula.specs.Shape.{IsProper}

-- the relations with their bounds, the numbers of those that are top-level signatures, and the formula
pub record Bounded : Type 0 where
  pub relations : List Relation
  pub tops : List ℕ
  pub formula : FormulaTree

-- the relation of a number, and an empty one past the end
abbrev pub relation_at : List Relation → ℕ → Relation
relation_at relations r =
    let none : Rows = record { arity = 1; rows = [] } in
    slice_index_or relations r (record { name = []; lower = none; upper = none })

-- the tuples, in order, that the relation may have and need not have
abbrev pub open_tuples : Relation → List (List Atom)
open_tuples relation = filter (λ t. not (list_any (eq_by_cmp tuple_cmp t) relation.lower.rows)) relation.upper.rows

abbrev pub cell_of : ℕ → List Atom → Cell
cell_of r t = record { relation = r; tuple = t }

-- the cells of relations that are numbered from r on: relation by relation, each one's in the order of tuples
abbrev pub cells_from : ℕ → List Relation → List Cell
cells_from r [] = []
cells_from r (relation ∷ rest) = map (cell_of r) (open_tuples relation) ++ cells_from (r + 1) rest

-- the cells of a problem: a cell's number is its place here
abbrev pub cells_of : Bounded → List Cell
cells_of p = cells_from 0 p.relations

-- the atom stands in the upper set of some relation
abbrev pub IsAtomOf : Bounded → Atom → Type 0
IsAtomOf p a = (relation : Relation) × Contains p.relations relation × ((t : List Atom) × Contains relation.upper.rows t × Contains t a)

-- the name of an atom's top-level signature
abbrev pub signature_name : Bounded → Atom → List ℕ
signature_name p a = (relation_at p.relations (slice_index p.tops a.top)).name

-- the tuples of one atom of the problem
abbrev pub InAtoms : Bounded → Pred
InAtoms p t = (a : Atom) × IsAtomOf p a × (t ≡ a ∷ [])

-- both bounds are sets of one arity, and the lower one lies in the upper one
pub record IsRelation (relation : Relation) : Type 0 where
  pub lower : IsRows relation.lower
  pub upper : IsRows relation.upper
  pub arity : relation.upper.arity ≡ relation.lower.arity
  pub within : All (Contains relation.upper.rows) relation.lower.rows

-- a problem has at most so many cells
abbrev pub most_cells : ℕ
most_cells = 4096

-- what is true of every problem
pub record IsProblem (p : Bounded) : Type 0 where
  pub few : length p.relations ≤ 128
  pub few_cells : length (cells_of p) ≤ most_cells
  pub relations : All IsRelation p.relations
  pub names : AllPairs (λ r s. r.name ≢ s.name) p.relations
  -- the top-level signatures are unary relations, in rising order
  pub tops : All (λ r. r < length p.relations) p.tops
  pub unary : All (λ r. (relation_at p.relations r).upper.arity ≡ 1) p.tops
  pub rising : AllPairs (λ r s. r < s) p.tops
  -- an atom's signature is a place in that list
  pub atoms : (a : Atom) → IsAtomOf p a → a.top < length p.tops
  pub proper : IsProper (map (λ r. r.lower.arity) p.relations) 0 p.formula

-- there are at most 64 atoms
abbrev pub HasFewAtoms : Bounded → Type 0
HasFewAtoms p = (atoms : List Atom) × (length atoms ≤ 64) × ((a : Atom) → IsAtomOf p a → Contains atoms a)

-- no atom may be in two top-level signatures
abbrev pub HasDisjointTops : Bounded → Type 0
HasDisjointTops p = (r s : ℕ) (t : List Atom) → Contains p.tops r → Contains p.tops s →
    Contains (relation_at p.relations r).upper.rows t → Contains (relation_at p.relations s).upper.rows t → r ≡ s
