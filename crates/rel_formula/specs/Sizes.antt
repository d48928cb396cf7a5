-- How many tuples a set has.
use Rattle.std.specs.Prelude.{◌≡◌, ◌↔◌, ℕ, List, length, Contains}
use Rattle.tuple_core.specs.declared.atom.Atom.{Atom}
use Rattle.tuple_core.specs.Operators.{Pred}
use Rattle.tuple_core.specs.Order.{IsAscending}

-- the tuples of the set, in order and each once
pub record IsListOf (P : Pred) (ts : List (List Atom)) : Type 0 where
  pub ascending : IsAscending ts
  pub just : (t : List Atom) → Contains ts t ↔ P t

-- the set has n tuples
abbrev pub HasSize : Pred → ℕ → Type 0
HasSize P n = (ts : List (List Atom)) × IsListOf P ts × (length ts ≡ n)
