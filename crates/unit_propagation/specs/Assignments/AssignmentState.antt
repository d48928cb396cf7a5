-- What an assignment is, as its callers see it.
use Rattle.std.specs.Prelude.{ℕ, Bool, true, false, Option, None, Some, List, Contains}
use Rattle.cnf_core.specs.declared.literal.Lit.{Lit}
use Rattle.cnf_core.specs.Literal.{negation_of}
use Rattle.refutation_check.specs.Assumed.{IsOpen}
use Rattle.unit_propagation.specs.declared.assignment_trail.assigned.Assigned.{Assigned}

-- the literals that are true, the oldest first, over the variables up to vars
pub record AssignmentState : Type 0 where
  pub vars : ℕ
  pub assigned : List Assigned

-- the value of a literal: open, or true where its opposite is false, or false
abbrev pub IsValueOf : List Lit → Lit → Option Bool → Type 0
IsValueOf falses l None = IsOpen falses l
IsValueOf falses l (Some true) = Contains falses (negation_of l) × ¬ Contains falses l
IsValueOf falses l (Some false) = Contains falses l × ¬ Contains falses (negation_of l)

-- no literal is false with its opposite
abbrev pub IsConsistent : List Lit → Type 0
IsConsistent falses = (l : Lit) → Contains falses l → Contains falses (negation_of l) → ⊥
