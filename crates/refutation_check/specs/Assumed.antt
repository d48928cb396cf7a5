-- What is kept of the literals that are taken for false.
use Rattle.std.specs.Prelude.{ℕ, List, Contains}
use Rattle.cnf_core.specs.declared.literal.Lit.{Lit}
use Rattle.cnf_core.specs.Literal.{negation_of}

-- the literals that are false, the oldest first, over the variables from 1 to vars
pub record Assumed : Type 0 where
  pub vars : ℕ
  pub falses : List Lit

-- neither the literal nor its opposite is false
abbrev pub IsOpen : List Lit → Lit → Type 0
IsOpen falses l = (¬ Contains falses l) × (¬ Contains falses (negation_of l))
