-- What holds on the way of a descent in one search.
use Rattle.std.specs.Prelude.{◌≡◌, ◌<◌, ◌≤◌, ◌+◌, ℕ, Bool, true, false, not, List, Contains}
use Rattle.cnf_core.specs.declared.literal.Lit.{Lit}
use Rattle.cnf_core.specs.Formula.{Formula}
use Rattle.cnf_core.specs.Valuation.{Satisfies, literal_value}
use Rattle.unit_propagation.specs.Assignments.Trail.{IsTrail, falses_of}
use Rattle.sat_trail.specs.Closed.{IsClosed}
use Rattle.sat_trail.specs.Deciding.{HasAllValues}
use Rattle.sat_trail.specs.Trailed.{Trailed}
use Rattle.translation_rules.specs.Translation.{var_of}

-- the trail has the formula's clauses, and its variables
pub record IsOver (f : Formula) (trail : Trailed) : Type 0 where
  pub clauses_are : trail.clauses ≡ f.clauses
  pub enough : f.vars ≤ trail.vars

-- the trail has this value for the cell
abbrev pub HasValue : Trailed → ℕ → Bool → Type 0
HasValue trail cell value = Contains (falses_of trail.assigned) (record { var = cell + 1; positive = not value })

-- what is false stays so
abbrev pub IsMore : Trailed → Trailed → Type 0
IsMore old new = (l : Lit) → Contains (falses_of old.assigned) l → Contains (falses_of new.assigned) l

-- the valuation satisfies the clauses, has the floor's cells, and has none of the first cells that is absent already
pub record IsBelow (clauses : List (List Lit)) (floor : List ℕ) (count : ℕ) (v : ℕ → Bool) (falses : List Lit) : Type 0 where
  pub satisfied : Satisfies v clauses
  pub above : (cell : ℕ) → Contains floor cell → v (var_of cell) ≡ true
  pub absent : (cell : ℕ) → cell < count → Contains falses (record { var = cell + 1; positive = true }) → v (cell + 1) ≡ false

-- the literals are false in each valuation below
abbrev pub AreFalseBelow : List (List Lit) → List ℕ → ℕ → List Lit → Type 0
AreFalseBelow clauses floor count falses = (v : ℕ → Bool) → IsBelow clauses floor count v falses → (l : Lit) → Contains falses l → literal_value v l ≡ false

-- propagation is at its end, and what is false is false in each valuation below
pub record Leads (floor : List ℕ) (count : ℕ) (trail : Trailed) : Type 0 where
  pub ordered : IsTrail trail.clauses trail.assigned
  pub closed : IsClosed trail.clauses (falses_of trail.assigned)
  pub led : AreFalseBelow trail.clauses floor count (falses_of trail.assigned)

-- the cell is present where the floor has it, and absent where neither floor nor start has it
pub record IsBounded (floor start : List ℕ) (trail : Trailed) (cell : ℕ) : Type 0 where
  pub above : Contains floor cell → HasValue trail cell true
  pub within : ¬ Contains floor cell → ¬ Contains start cell → HasValue trail cell false

-- each cell has a value, within these bounds, and the cells that are there are there in each valuation below
pub record IsLowered (floor start : List ℕ) (count : ℕ) (trail : Trailed) : Type 0 where
  pub leads : Leads floor count trail
  pub valued : HasAllValues count (falses_of trail.assigned)
  pub bounded : (cell : ℕ) → cell < count → IsBounded floor start trail cell
