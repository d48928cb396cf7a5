-- Which clauses are marked, as callers see it.
use Rattle.std.specs.Prelude.{ℕ, Bool, List, All, Contains, nat_eq}
use Rattle.std.specs.List.{IsDistinct}
use Rattle.unit_propagation.specs.Propagation.Rule.{IsMarked}

-- whether each clause is marked, and the clauses that are
pub record PendingState : Type 0 where
  pub flags : List Bool
  pub list : List ℕ

-- the list has each clause that is marked, once, and no other
pub record IsMarkList (flags : List Bool) (list : List ℕ) : Type 0 where
  pub covers : (n : ℕ) → IsMarked flags n → Contains list n
  pub only : All (IsMarked flags) list
  pub once : IsDistinct nat_eq list
