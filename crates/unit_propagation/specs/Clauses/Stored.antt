-- What a flat store of clauses is: all literals one after another, and where each clause ends.
use Rattle.std.specs.Prelude.{◌<◌, ◌^◌, List, All, length}
use Rattle.cnf_core.specs.declared.literal.Lit.{Lit}
use Rattle.cnf_core.specs.Literal.{IsClause}
use Rattle.unit_propagation.specs.declared.clause_store.store.Store.TheInside.{Inside}
use Rattle.unit_propagation.specs.Clauses.Parts.{clauses_from, EndsAt}

-- the clauses of a store
abbrev pub stored : Inside → List (List Lit)
stored s = clauses_from s.codes.items 0 s.ends.items

-- the ends fit the literals, and what is stored are clauses
pub record IsStore (s : Inside) : Type 0 where
  pub ends : EndsAt (length s.codes.items) 0 s.ends.items
  pub clauses : All IsClause (stored s)
  pub few : length s.ends.items < 2 ^ 30
  pub small : length s.codes.items < 2 ^ 32
