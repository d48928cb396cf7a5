-- What a trail holds, and what it says of the variables.
use Rattle.std.specs.Prelude.{◌≡◌, Bool, not, Some, ◌≤◌, ℕ, List, [], All, Contains, Option, None}
use Rattle.cnf_core.specs.declared.literal.Lit.{Lit}
use Rattle.cnf_core.specs.Literal.{HasVarsUpTo}
use Rattle.cnf_core.specs.Formula.{Formula}
use Rattle.unit_propagation.specs.declared.assignment_trail.assigned.Assigned.{Assigned}

-- clauses over the variables from 1 to vars, and the literals that are true, the oldest first
pub record Trailed : Type 0 where
  pub vars : ℕ
  pub clauses : List (List Lit)
  pub assigned : List Assigned

-- the clauses of a formula, over its variables and perhaps more, and no literal is true
pub record IsBase (f : Formula) (t : Trailed) : Type 0 where
  pub clauses_are : t.clauses ≡ f.clauses
  pub enough : f.vars ≤ t.vars
  pub none : t.assigned ≡ []

-- the lowest number that is not below the first one, and below no variable of the clauses
pub record IsVarLimit (first : ℕ) (clauses : List (List Lit)) (vars : ℕ) : Type 0 where
  pub at_least : first ≤ vars
  pub within : All (HasVarsUpTo vars) clauses
  pub least : (n : ℕ) → first ≤ n → All (HasVarsUpTo n) clauses → vars ≤ n

-- what a variable is: true or false as its literal, or open
abbrev pub IsValue : List Lit → ℕ → Option Bool → Type 0
IsValue falses var None = (positive : Bool) → ¬ Contains falses (record { var = var; positive = positive })
IsValue falses var (Some value) = Contains falses (record { var = var; positive = not value })
