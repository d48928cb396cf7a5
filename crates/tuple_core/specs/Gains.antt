-- Sets of tuples that have the same tuples, or that grow as tuples are put in.
use Rattle.std.specs.Prelude.{◌↔◌, ◌⊎◌, List, Contains}
use Rattle.tuple_core.specs.declared.atom.Atom.{Atom}
use Rattle.tuple_core.specs.Operators.{Pred}

-- two sets with the same tuples
pub record Same (P Q : Pred) : Type 0 where
  pub to : (t : List Atom) → P t → Q t
  pub back : (t : List Atom) → Q t → P t

-- the tuples of new are those of old and those of P
pub record Gains (old new P : Pred) : Type 0 where
  pub tuples : (t : List Atom) → new t ↔ (old t ⊎ P t)

-- R leads from some element of the list to t
abbrev pub SomeGives : {X : Type 0} → List X → (X → Pred) → Pred
SomeGives {X} xs R t = (x : X) × Contains xs x × R x t
