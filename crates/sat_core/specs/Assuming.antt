-- What a search assumes: the literals of the local clauses of one literal. The other local clauses are clauses of the trail.
use Rattle.std.specs.Prelude.{◌≡◌, ◌≢◌, ◌+◌, ◌-◌, ◌<◌, ◌≤◌, ◌⊎◌, ◌∷◌, [], ℕ, List, All, Contains, None, length, map, take, slice_get, slice_index_or, nat_lt, if◌then◌else◌}
use Rattle.std.specs.Option.{option_map_or}
use Rattle.cnf_core.specs.declared.literal.Lit.{Lit}
use Rattle.cnf_core.specs.Literal.{negation_of}
use Rattle.refutation_check.specs.declared.log.Step.{Step}
use Rattle.refutation_check.specs.Chain.{Names}
use Rattle.unit_propagation.specs.declared.assignment_trail.assigned.Assigned.{Assigned}
use Rattle.unit_propagation.specs.Assignments.Trail.{falses_of}
use Rattle.sat_trail.specs.Closed.{IsClosed}

-- assumed are the literals of the local clauses of one literal; the others are the rest of the local clauses, at these places from 1
pub record IsSplit (local : List (List Lit)) (assumed : List Lit) (others : List (List Lit)) (places : List ℕ) : Type 0 where
  pub units : (l : Lit) → Contains assumed l → Contains local (l ∷ [])
  pub each : (c : List Lit) → Contains local c → Contains others c ⊎ ((l : Lit) × (c ≡ l ∷ []) × Contains assumed l)
  pub as_many : length places ≡ length others
  pub few : length others ≤ length local
  pub named : (i : ℕ) (d : ℕ) (e : List Lit) → i < length others → Names local (slice_index_or places i d) (slice_index_or others i e)
  pub longer : All (λ c. (l : Lit) → c ≢ l ∷ []) others

-- of the given clauses those that aren't kept are of one literal, which is assumed
pub record Keeps (given kept : List (List Lit)) (assumed : List Lit) : Type 0 where
  pub of_kept : (c : List Lit) → Contains kept c → Contains given c
  pub of_assumed : (l : Lit) → Contains assumed l → Contains given (l ∷ [])
  pub each : (c : List Lit) → Contains given c → Contains kept c ⊎ ((l : Lit) × (c ≡ l ∷ []) × Contains assumed l)

-- the number in an answer of the member that has this number on the trail: a clause of the formula keeps its number, another
-- local clause has its place among all of them, and the steps come after these
abbrev pub number_of : ℕ → ℕ → List ℕ → ℕ → ℕ
number_of clauses local places hint =
    if nat_lt clauses hint then option_map_or (λ place. clauses + place) (slice_get places (hint - clauses - 1)) ((hint - length places) + local) else hint

-- the step with its hints by other numbers
abbrev pub numbered : (ℕ → ℕ) → Step → Step
numbered number s = record { clause = s.clause; hints = map number s.hints }

-- each of the literals is true
abbrev pub AreTrue : List Lit → List Lit → Type 0
AreTrue falses lits = All (λ l. Contains falses (negation_of l)) lits

-- the decisions up to this level are assumed, and before each decision above it all that is assumed is true
abbrev pub IsAssumedFirst : List Lit → ℕ → List Assigned → Type 0
IsAssumedFirst assumed depth assigned =
    (i : ℕ) (d : Assigned) → i < length assigned → (slice_index_or assigned i d).reason ≡ None →
    (((slice_index_or assigned i d).level ≤ depth) × Contains assumed (slice_index_or assigned i d).lit) ⊎ ((depth < (slice_index_or assigned i d).level) × AreTrue (falses_of (take i assigned)) assumed)

-- whatever is false, propagation isn't at its end for these clauses with a clause of one literal for each assumed literal
abbrev pub IsClash : List (List Lit) → List Lit → Type 0
IsClash clauses assumed = (falses : List Lit) → IsClosed clauses falses → ¬ All (λ l. IsClosed ((l ∷ []) ∷ []) falses) assumed
