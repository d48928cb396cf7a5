-- What holds while the slots that watch a literal are gone over.
use Rattle.std.specs.Prelude.{◌≡◌, ◌+◌, ◌*◌, ◌/◌, ◌<◌, ◌≤◌, ℕ, Bool, List, [], All, Contains, Option, None, Some, length, slice_index_or}
use Rattle.cnf_core.specs.declared.literal.Lit.{Lit}
use Rattle.cnf_core.specs.Literal.{negation_of, HasVarsUpTo}
use Rattle.refutation_check.specs.Chain.{Refutes}
use Rattle.unit_propagation.specs.Clauses.Codes.{literal_of}
use Rattle.unit_propagation.specs.Watches.WatchState.{WatchState, list_at}
use Rattle.unit_propagation.specs.declared.assignment_trail.assigned.Assigned.{Assigned}
use Rattle.unit_propagation.specs.Assignments.Trail.{IsTrail, IsVarUpTo, falses_of}
use Rattle.std.specs.List.{remove}
use Rattle.unit_propagation.specs.declared.watched_literals.walk.Step.{Step}
use Rattle.unit_propagation.specs.declared.watched_literals.walk.Step.TheVariants.{Kept, Moved, Falsified}
use Rattle.unit_propagation.specs.Assignments.AssignmentState.{AssignmentState}
use Rattle.unit_propagation.specs.Propagation.Rule.{AreWatched, IsRightAt, IsWatchedRight}

-- the consequences of the oldest so many literals are propagated, and of the next one those at the first places of its list
pub record IsWalking (clauses : List (List Lit)) (w : WatchState) (now : AssignmentState) (flags : List Bool) (propagated gone at : ℕ) : Type 0 where
  pub trail : IsTrail clauses now.assigned
  pub in_range : All (IsVarUpTo now.vars) now.assigned
  pub within : All (HasVarsUpTo now.vars) clauses
  pub long : length w.codes ≡ 2 * length clauses
  pub flags_long : length flags ≡ length clauses
  pub lists : length w.lists ≡ 2 * now.vars + 2
  pub watching : AreWatched clauses w.codes flags
  pub propagated_in : propagated < length now.assigned
  pub gone_is : (d : Assigned) → negation_of (slice_index_or now.assigned propagated d).lit ≡ literal_of gone
  pub right : IsWatchedRight w.codes now.assigned flags propagated
  pub at_in : at ≤ length (list_at w.lists gone)
  pub done : (p : ℕ) → p < at → IsRightAt w.codes now.assigned flags propagated (slice_index_or (list_at w.lists gone) p 0)

-- a literal that may be watched in place of a false one: it is not false, and not the other one; or all but the other one are false
abbrev pub IsReplacement : List Lit → ℕ → List Lit → ℕ → Option ℕ → Type 0
IsReplacement falses vars clause other None = (l : Lit) → Contains clause l → (l ≡ literal_of other → ⊥) → Contains falses l
IsReplacement falses vars clause other (Some code) = Contains clause (literal_of code) × (literal_of code ≡ literal_of other → ⊥) × (Contains falses (literal_of code) → ⊥) × (code / 2 ≤ vars)

-- the walk is at this slot of the list
pub record IsAtSlot (clauses : List (List Lit)) (w : WatchState) (now : AssignmentState) (flags : List Bool) (propagated gone at slot : ℕ) : Type 0 where
  pub walking : IsWalking clauses w now flags propagated gone at
  pub here : at < length (list_at w.lists gone)
  pub is : slice_index_or (list_at w.lists gone) at 0 ≡ slot
  pub gone_low : 2 ≤ gone
  pub gone_in : gone < length w.lists

-- each literal of the clause but this one is false
abbrev pub IsFalseBut : List (List Lit) → List Lit → ℕ → Lit → Type 0
IsFalseBut clauses falses n other = (l : Lit) → Contains (slice_index_or clauses n []) l → (l ≡ other → ⊥) → Contains falses l

-- what became of the slot: it stays, or is on another list now, or its clause is falsified
abbrev pub IsStepped : List (List Lit) → WatchState → WatchState → AssignmentState → List Bool → ℕ → ℕ → ℕ → ℕ → Step → Type 0
IsStepped clauses old w now flags propagated gone at slot Kept = IsWalking clauses w now flags propagated gone (at + 1) × (w ≡ old)
IsStepped clauses old w now flags propagated gone at slot Moved = IsWalking clauses w now flags propagated gone at × (list_at w.lists gone ≡ remove (list_at old.lists gone) at)
IsStepped clauses old w now flags propagated gone at slot Falsified = IsWalking clauses w now flags propagated gone at × Refutes clauses (falses_of now.assigned) (slot / 2 + 1)

-- the consequences of the oldest so many literals are propagated
pub record IsReady (clauses : List (List Lit)) (w : WatchState) (now : AssignmentState) (flags : List Bool) (propagated : ℕ) : Type 0 where
  pub trail : IsTrail clauses now.assigned
  pub within : All (HasVarsUpTo now.vars) clauses
  pub long : length w.codes ≡ 2 * length clauses
  pub flags_long : length flags ≡ length clauses
  pub lists : length w.lists ≡ 2 * now.vars + 2
  pub watching : AreWatched clauses w.codes flags
  pub propagated_in : propagated ≤ length now.assigned
  pub right : IsWatchedRight w.codes now.assigned flags propagated

-- what the walk came to: the consequences of one more literal are propagated, or a clause is falsified
abbrev pub IsWalked : List (List Lit) → WatchState → AssignmentState → List Bool → ℕ → ℕ → Option ℕ → Type 0
IsWalked clauses w now flags propagated gone None = IsReady clauses w now flags (propagated + 1)
IsWalked clauses w now flags propagated gone (Some n) = IsReady clauses w now flags propagated × Refutes clauses (falses_of now.assigned) (n + 1)

-- all consequences are propagated, or a clause is falsified
abbrev pub IsPropagated : List (List Lit) → WatchState → AssignmentState → List Bool → ℕ → Option ℕ → Type 0
IsPropagated clauses w now flags propagated None = IsReady clauses w now flags propagated × (propagated ≡ length now.assigned)
IsPropagated clauses w now flags propagated (Some n) = IsReady clauses w now flags propagated × Refutes clauses (falses_of now.assigned) (n + 1)
