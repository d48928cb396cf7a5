-- What can be said of the conflict that a clause is learnt from, and of the clause.
use Rattle.std.specs.Prelude.{◌≡◌, ◌<◌, ◌≤◌, ◌⊎◌, ℕ, List, Contains, length, slice_index_or}
use Rattle.cnf_core.specs.declared.literal.Lit.{Lit}
use Rattle.cnf_core.specs.Literal.{negation_of}
use Rattle.refutation_check.specs.Chain.{Names}
use Rattle.unit_propagation.specs.declared.assignment_trail.assigned.Assigned.{Assigned}

-- the conflict's clause has a literal above level 0
pub record IsAbove (clauses : List (List Lit)) (assigned : List Assigned) (conflict : ℕ) : Type 0 where
  pub clause : List Lit
  pub named : Names clauses conflict clause
  pub place : ℕ
  pub in_range : place < length assigned
  pub member : (d : Assigned) → Contains clause (negation_of (slice_index_or assigned place d).lit)
  pub above : (d : Assigned) → 0 < (slice_index_or assigned place d).level

-- each literal of the conflict's clause is of level 0
abbrev pub IsFlat : List (List Lit) → List Assigned → ℕ → Type 0
IsFlat clauses assigned conflict =
    (clause : List Lit) (l : Lit) (j : ℕ) (d : Assigned) → Names clauses conflict clause → Contains clause l → j < length assigned → l.var ≡ (slice_index_or assigned j d).lit.var → (slice_index_or assigned j d).level ≡ 0

-- the clause has one literal of a level above 0, and its others are of lower levels; each is the opposite of one of the trail
pub record IsAsserting (assigned : List Assigned) (clause : List Lit) : Type 0 where
  pub place : ℕ
  pub in_range : place < length assigned
  pub above : (d : Assigned) → 0 < (slice_index_or assigned place d).level
  pub has : (d : Assigned) → Contains clause (negation_of (slice_index_or assigned place d).lit)
  pub others : (l : Lit) (d : Assigned) → Contains clause l → (negation_of (slice_index_or assigned place d).lit ≡ l) ⊎ ((k : ℕ) × (k < length assigned) × ((slice_index_or assigned k d).level < (slice_index_or assigned place d).level) × (negation_of (slice_index_or assigned k d).lit ≡ l))

-- one literal of the clause is of a level above this one, and the others are of levels up to it, one of them of it unless it is 0
pub record IsBackLevel (assigned : List Assigned) (clause : List Lit) (level : ℕ) : Type 0 where
  pub place : ℕ
  pub in_range : place < length assigned
  pub above : (d : Assigned) → level < (slice_index_or assigned place d).level
  pub has : (d : Assigned) → Contains clause (negation_of (slice_index_or assigned place d).lit)
  pub others : (l : Lit) (d : Assigned) → Contains clause l → (negation_of (slice_index_or assigned place d).lit ≡ l) ⊎ ((k : ℕ) × (k < length assigned) × ((slice_index_or assigned k d).level ≤ level) × (negation_of (slice_index_or assigned k d).lit ≡ l))
  pub reached : 0 < level → (k : ℕ) × (k < length assigned) × ((d : Assigned) → (slice_index_or assigned k d).level ≡ level) × ((d : Assigned) → Contains clause (negation_of (slice_index_or assigned k d).lit))
