-- The relations' values, kept as sets of tuples.
use Rattle.std.specs.Prelude.{◌≡◌, ◌<◌, ℕ, List, [], map, length, slice_index_or, Contains}
use Rattle.tuple_core.specs.Operators.{Pred}
use Rattle.tuple_core.specs.Rows.{Rows, IsSetOf}
use Rattle.rel_formula.specs.Bounds.{Bounded, relation_at}
use Rattle.rel_formula.specs.Meaning.{Structure}
use Rattle.rel_formula.specs.Instance.{InRelation, InSome}

-- the value of each relation, by its number, and that of the top-level signatures together
pub record Tabled : Type 0 where
  pub values : List Rows
  pub universe : Rows

-- the arity of each relation
abbrev pub arities : Tabled → List ℕ
arities tables = map (λ v. v.arity) tables.values

-- the tuples of each set, and none past the end
abbrev pub values_of : List Rows → ℕ → Pred
values_of vs r t = Contains (slice_index_or vs r (record { arity = 1; rows = [] })).rows t

-- what these sets say
abbrev pub tabled : Tabled → Structure
tabled tables = record { values = values_of tables.values; universe = Contains tables.universe.rows }

-- each set is the value of the relation of its number where these cells are chosen
pub record AreTables (p : Bounded) (chosen : List ℕ) (vs : List Rows) : Type 0 where
  pub count : length vs ≡ length p.relations
  pub each : (r : ℕ) (d : Rows) → r < length vs →
      IsSetOf (slice_index_or vs r d) (relation_at p.relations r).lower.arity (InRelation p (Contains chosen) r)

-- and the universe is that of the top-level signatures
pub record AreTablesOf (p : Bounded) (chosen : List ℕ) (tables : Tabled) : Type 0 where
  pub values : AreTables p chosen tables.values
  pub universe : IsSetOf tables.universe 1 (InSome p.tops (InRelation p (Contains chosen)))
