-- What a contract sees of a set of tuples.
use Rattle.std.specs.Prelude.{◌≡◌, ◌↔◌, ◌≤◌, ℕ, List, length, All, Contains}
use Rattle.tuple_core.specs.declared.atom.Atom.{Atom}
use Rattle.tuple_core.specs.Order.{IsAscending}
use Rattle.tuple_core.specs.Operators.{Pred}
use Rattle.tuple_core.specs.Gains.{Gains}

-- the arity, and the tuples in order
pub record Rows : Type 0 where
  pub arity : ℕ
  pub rows : List (List Atom)

-- the arity is 1 to 3, each tuple has it, and the tuples stand in order, each once
pub record IsRows (v : Rows) : Type 0 where
  pub low : 1 ≤ v.arity
  pub high : v.arity ≤ 3
  pub arities : All (λ t. length t ≡ v.arity) v.rows
  pub ascending : IsAscending v.rows

-- the tuples are just those of P
abbrev pub HasJust : Rows → Pred → Type 0
HasJust v P = (t : List Atom) → Contains v.rows t ↔ P t

-- the set has this arity, and just the tuples of P
pub record IsSetOf (v : Rows) (arity : ℕ) (P : Pred) : Type 0 where
  pub arity_is : v.arity ≡ arity
  pub just : HasJust v P

-- the arity stays, and the tuples of new are those of old and those of P
pub record SetGains (old new : Rows) (P : Pred) : Type 0 where
  pub arity : new.arity ≡ old.arity
  pub rows : Gains (Contains old.rows) (Contains new.rows) P
