-- What the walk back over a trail keeps, while a clause is learnt.
use Rattle.std.specs.Prelude.{◌≡◌, ◌≤◌, ◌<◌, ◌⊎◌, [], ℕ, List, Bool, true, false, Contains, length, take, reverse, slice_index_or}
use Rattle.cnf_core.specs.declared.literal.Lit.{Lit}
use Rattle.cnf_core.specs.Literal.{negation_of}
use Rattle.refutation_check.specs.Chain.{Reaches, Refutes}
use Rattle.refutation_check.specs.SearchLog.{IsVarOf}
use Rattle.unit_propagation.specs.declared.assignment_trail.assigned.Assigned.{Assigned}
use Rattle.unit_propagation.specs.Assignments.Trail.{falses_of}
use Rattle.sat_trail.specs.Learnt.{IsAbove, IsFlat}

-- the variable is marked
abbrev pub IsMarked : List Bool → ℕ → Type 0
IsMarked seen var = slice_index_or seen var false ≡ true

-- where these literals are false, the hints force literals, and then the conflict's clause is false
abbrev pub Conflicts : List (List Lit) → List Lit → List ℕ → ℕ → Type 0
Conflicts clauses falses hints conflict = (after : List Lit) × Reaches clauses falses hints after × Refutes clauses after conflict

-- false are the literals kept so far and what is marked among the first n of the trail, and nothing but the former and what is false there
pub record Covers (assigned : List Assigned) (seen : List Bool) (kept : List Lit) (n : ℕ) (falses : List Lit) : Type 0 where
  pub has_kept : (l : Lit) → Contains kept l → Contains falses l
  pub has_marked : (j : ℕ) (d : Assigned) → j < n → IsMarked seen (slice_index_or assigned j d).lit.var → Contains falses (negation_of (slice_index_or assigned j d).lit)
  pub only : (l : Lit) → Contains falses l → Contains kept l ⊎ Contains (falses_of (take n assigned)) l

-- a literal above level 0 is marked among the first n
pub record IsHigh (assigned : List Assigned) (seen : List Bool) (n : ℕ) : Type 0 where
  pub place : ℕ
  pub before : place < n
  pub marked : (d : Assigned) → IsMarked seen (slice_index_or assigned place d).lit.var
  pub above : (d : Assigned) → 0 < (slice_index_or assigned place d).level

-- one literal is kept, negated, of a level above 0, and what else is kept or marked is of lower levels
pub record IsPointed (assigned : List Assigned) (seen : List Bool) (kept : List Lit) (n : ℕ) : Type 0 where
  pub place : ℕ
  pub later : n ≤ place
  pub in_range : place < length assigned
  pub above : (d : Assigned) → 0 < (slice_index_or assigned place d).level
  pub has : (d : Assigned) → Contains kept (negation_of (slice_index_or assigned place d).lit)
  pub others : (l : Lit) (d : Assigned) → Contains kept l → (negation_of (slice_index_or assigned place d).lit ≡ l) ⊎ ((k : ℕ) × (k < length assigned) × ((slice_index_or assigned k d).level < (slice_index_or assigned place d).level) × (negation_of (slice_index_or assigned k d).lit ≡ l))
  pub lower : (j : ℕ) (d : Assigned) → j < n → IsMarked seen (slice_index_or assigned j d).lit.var → (slice_index_or assigned j d).level < (slice_index_or assigned place d).level

-- where the implication point is found, or is still to come
abbrev pub HasPoint : List Assigned → List Bool → List Lit → ℕ → Type 0
HasPoint assigned seen kept n = ((kept ≡ []) × IsHigh assigned seen n) ⊎ IsPointed assigned seen kept n

-- the literals kept so far are those of the trail from n on, and with whatever covers the rest the hints lead to the conflict
pub record Learning (clauses : List (List Lit)) (assigned : List Assigned) (conflict : ℕ) (seen : List Bool) (kept : List Lit) (hints : List ℕ) (n : ℕ) : Type 0 where
  pub from_later : (l : Lit) → Contains kept l → (k : ℕ) × (n ≤ k) × (k < length assigned) × ((d : Assigned) → negation_of (slice_index_or assigned k d).lit ≡ l)
  pub kept_occur : (l : Lit) → Contains kept l → IsVarOf clauses l.var
  pub marked_occur : (var : ℕ) → IsMarked seen var → IsVarOf clauses var
  pub conflicts : (falses : List Lit) → Covers assigned seen kept n falses → Conflicts clauses falses (reverse hints) conflict
  pub point : IsAbove clauses assigned conflict → HasPoint assigned seen kept n
  pub flat : IsFlat clauses assigned conflict → (kept ≡ []) × ((j : ℕ) (d : Assigned) → j < n → IsMarked seen (slice_index_or assigned j d).lit.var → (slice_index_or assigned j d).level ≡ 0)

-- the marks of the clause's variables are added
pub record Marking (old new : List Bool) (lits : List Lit) : Type 0 where
  pub added : (l : Lit) → Contains lits l → IsMarked new l.var
  pub stay : (var : ℕ) → IsMarked old var → IsMarked new var
  pub only : (var : ℕ) → IsMarked new var → IsMarked old var ⊎ ((l : Lit) × Contains lits l × (l.var ≡ var))

-- another of the older literals is marked and of this level
abbrev pub HasAnother : List Assigned → List Bool → ℕ → Type 0
HasAnother older seen level = (k : ℕ) × (k < length older) × ((d : Assigned) → IsMarked seen (slice_index_or older k d).lit.var × ((slice_index_or older k d).level ≡ level))

-- none of the older literals is marked and of this level
abbrev pub HasNoOther : List Assigned → List Bool → ℕ → Type 0
HasNoOther older seen level = (k : ℕ) (d : Assigned) → k < length older → IsMarked seen (slice_index_or older k d).lit.var → (slice_index_or older k d).level ≡ level → ⊥

-- a literal is resolved, and not kept, where it is of level 0, or where nothing is kept yet and another of its level is marked
abbrev pub IsResolved : List Assigned → List Bool → List Lit → ℕ → Bool → Type 0
IsResolved older seen kept level true = (level ≡ 0) ⊎ ((kept ≡ []) × HasAnother older seen level)
IsResolved older seen kept level false = (level ≡ 0 → ⊥) × (kept ≡ [] → HasNoOther older seen level)
