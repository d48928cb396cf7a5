-- Which variables have values, and what a decision changes.
use Rattle.std.specs.Prelude.{◌++◌, ◌∷◌, [], ◌+◌, ◌-◌, ◌≤◌, ℕ, Bool, not, false, List, Contains, None}
use Rattle.cnf_core.specs.declared.literal.Lit.{Lit}
use Rattle.refutation_check.specs.Assumed.{IsOpen}
use Rattle.unit_propagation.specs.Assignments.Trail.{level_of}
use Rattle.sat_trail.specs.Trailed.{Trailed}

-- each variable from 1 to this one has a value
abbrev pub HasAllValues : ℕ → List Lit → Type 0
HasAllValues vars falses = (var : ℕ) → 1 ≤ var → var ≤ vars → (value : Bool) × Contains falses (record { var = var; positive = not value })

-- the variable is from 1 to the last one, and has no value
pub record IsOpenVar (vars : ℕ) (falses : List Lit) (var : ℕ) : Type 0 where
  pub from_one : 1 ≤ var
  pub in_range : var ≤ vars
  pub is_open : IsOpen falses (record { var = var; positive = false })

-- it is the first variable that has no value, and not above this one
pub record IsLowestOpen (limit : ℕ) (falses : List Lit) (var : ℕ) : Type 0 where
  pub is_open : IsOpenVar limit falses var
  pub below : HasAllValues (var - 1) falses

-- the literal is made true, on a new level
abbrev pub decided : Trailed → Lit → Trailed
decided trail l = record trail { assigned = trail.assigned ++ record { lit = l; level = level_of trail.assigned + 1; reason = None } ∷ [] }
