-- Two sets of the same atoms.
use Rattle.std.specs.Prelude.{◌≡◌, ◌≢◌, ◌⊎◌, ◌∷◌, ℕ, List, []}
use Rattle.tuple_core.specs.Rows.{Rows}
use Rattle.rel_formula.specs.declared.problem.Relation.{Relation}

-- the relation of this name may have any of the atoms, and has none for sure, or all
pub record IsSet (atoms : Rows) (called : List ℕ) (relation : Relation) : Type 0 where
  pub name : relation.name ≡ called
  pub arity : relation.lower.arity ≡ 1
  pub upper : relation.upper ≡ atoms
  pub lower : (relation.lower ≡ atoms) ⊎ (relation.lower.rows ≡ [])

-- two sets of the atoms, each of a name of its own
pub record AreTwoSets (atoms : Rows) (relations : List Relation) : Type 0 where
  pub first : Relation
  pub second : Relation
  pub one : List ℕ
  pub other : List ℕ
  pub are : relations ≡ first ∷ second ∷ []
  pub is_first : IsSet atoms one first
  pub is_second : IsSet atoms other second
  pub apart : one ≢ other
