-- The graph of signatures and their parents.
use Rattle.std.specs.Prelude.{◌≡◌, ◌++◌, ℕ, List, [], ◌∷◌, map, Option, Some, None, option_and_then}
use Rattle.alloy_lex.specs.declared.token.Place.{Place}
use Rattle.alloy_syntax.specs.declared.tree.Name.{Name}
use Rattle.named_model.specs.Names.{number_of}
use Rattle.named_model.specs.Faults.{Child}
use Rattle.reference_cycles.specs.Cycles.Walks.{rows_of}
use Rattle.name_tables.specs.declared.parent_cycles.graph.Graph.{Graph}

-- the edge to a parent, if there is one
abbrev pub row_to : Option ℕ → List ℕ
row_to None = []
row_to (Some n) = n ∷ []

-- the edge of a signature, where these are the names of the signatures
abbrev pub row_of : List (List ℕ) → Child → List ℕ
row_of names c = row_to (option_and_then (number_of names) c.parent)

abbrev pub place_of : Child → Place
place_of c = c.name.place

-- these names came behind the rest, all with one parent
pub record AddsAll (parent : Option ℕ) (names : List Name) (old new : Graph) : Type 0 where
  pub rows_are : rows_of new.rows.items ≡ rows_of old.rows.items ++ map (λ (n : Name). row_to parent) names
  pub places_are : new.places.items ≡ old.places.items ++ map (λ (n : Name). n.place) names

-- these signatures came behind the rest
pub record AddsChildren (names : List (List ℕ)) (cs : List Child) (old new : Graph) : Type 0 where
  pub rows_are : rows_of new.rows.items ≡ rows_of old.rows.items ++ map (row_of names) cs
  pub places_are : new.places.items ≡ old.places.items ++ map place_of cs

-- these are all signatures
pub record AreChildren (names : List (List ℕ)) (cs : List Child) (graph : Graph) : Type 0 where
  pub rows_are : rows_of graph.rows.items ≡ map (row_of names) cs
  pub places_are : graph.places.items ≡ map place_of cs
