-- Relations that have just the tuples that are told, of atoms of the first signature.
use Rattle.std.specs.Prelude.{◌≡◌, ◌≢◌, ◌≤◌, ℕ, List, [], ◌∷◌, map, length, All, AllPairs}
use Rattle.tuple_core.specs.declared.atom.Atom.{Atom}
use Rattle.tuple_core.specs.Rows.{IsRows}
use Rattle.rel_formula.specs.declared.problem.Relation.{Relation}
use Rattle.rel_formula.specs.Bounds.{relation_at}

-- both bounds are one set of at most 16 tuples of such atoms
pub record IsFixed (r : Relation) : Type 0 where
  pub rows : IsRows r.upper
  pub same : r.lower ≡ r.upper
  pub few : length r.upper.rows ≤ 16
  pub tops : All (All (λ (a : Atom). a.top ≡ 0)) r.upper.rows

-- and the relation has this name and this arity
pub record IsTable (name : List ℕ) (arity : ℕ) (r : Relation) : Type 0 where
  pub fixed : IsFixed r
  pub named : r.name ≡ name
  pub wide : r.lower.arity ≡ arity

-- two sets of atoms, two of pairs, and one of this arity
pub record AreTables (arity : ℕ) (rs : List Relation) : Type 0 where
  pub fixed : All IsFixed rs
  pub count : length rs ≡ 5
  pub names : AllPairs (λ (r s : Relation). r.name ≢ s.name) rs
  pub wide : map (λ (r : Relation). r.lower.arity) rs ≡ 1 ∷ 1 ∷ 2 ∷ 2 ∷ arity ∷ []
  pub first : (relation_at rs 0).upper.arity ≡ 1
  pub second : (relation_at rs 1).upper.arity ≡ 1
