-- The levels of the literals of a clause.
use Rattle.std.specs.Prelude.{◌≡◌, ◌≢◌, ◌<◌, ◌≤◌, ◌⊎◌, ◌+◌, ℕ, List, Contains, length, slice_index_or}
use Rattle.cnf_core.specs.declared.literal.Lit.{Lit}
use Rattle.unit_propagation.specs.declared.assignment_trail.assigned.Assigned.{Assigned}
use Rattle.unit_propagation.specs.Assignments.Trail.{level_of}

-- the highest level below this bound that a variable of the literals has, or 0
pub record IsHighestBelow (assigned : List Assigned) (lits : List Lit) (below level : ℕ) : Type 0 where
  pub at_most : (l : Lit) (i : ℕ) (d : Assigned) → Contains lits l → i < length assigned → (slice_index_or assigned i d).lit.var ≡ l.var → (slice_index_or assigned i d).level < below → (slice_index_or assigned i d).level ≤ level
  pub reached : 0 < level → (l : Lit) × Contains lits l × (level < below) × ((i : ℕ) (d : Assigned) → i < length assigned → (slice_index_or assigned i d).lit.var ≡ l.var → (slice_index_or assigned i d).level ≡ level)

-- a value that the variable has is of this level or of a higher one
abbrev pub IsFrom : List Assigned → ℕ → Lit → Type 0
IsFrom assigned level l = (i : ℕ) (d : Assigned) → i < length assigned → (slice_index_or assigned i d).lit.var ≡ l.var → level ≤ (slice_index_or assigned i d).level

-- so it is of two of the literals
pub record AreTwoFrom (assigned : List Assigned) (lits : List Lit) (level : ℕ) : Type 0 where
  pub one : Lit
  pub other : Lit
  pub has_one : Contains lits one
  pub has_other : Contains lits other
  pub apart : one.var ≢ other.var
  pub one_from : IsFrom assigned level one
  pub other_from : IsFrom assigned level other

-- back at this level two of the literals are open, of different variables; or it is 0
abbrev pub IsBelowTwo : List Assigned → List Lit → ℕ → Type 0
IsBelowTwo assigned lits level = (level ≡ 0) ⊎ AreTwoFrom assigned lits (level + 1)

-- it is the highest such level, up to that of the newest literal
pub record IsHighestBelowTwo (assigned : List Assigned) (lits : List Lit) (level : ℕ) : Type 0 where
  pub below_two : IsBelowTwo assigned lits level
  pub within : level ≤ level_of assigned
  pub highest : (other : ℕ) → other ≤ level_of assigned → IsBelowTwo assigned lits other → other ≤ level
