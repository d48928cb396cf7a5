-- What a trail is: the literals that are true, in the order in which they became so.
use Rattle.std.specs.Prelude.{◌≡◌, ◌++◌, IsSome, ◌+◌, ◌-◌, ◌<◌, ◌≤◌, ℕ, List, All, MatchOption, map, length, take, slice_get, slice_index_or}
use Rattle.std.specs.Option.{option_map_or}
use Rattle.cnf_core.specs.declared.literal.Lit.{Lit}
use Rattle.cnf_core.specs.Literal.{negation_of}
use Rattle.refutation_check.specs.Chain.{Forces}
use Rattle.refutation_check.specs.Assumed.{IsOpen}
use Rattle.unit_propagation.specs.declared.assignment_trail.assigned.Assigned.{Assigned}

-- the literals that are false
abbrev pub falses_of : List Assigned → List Lit
falses_of assigned = map (λ a. negation_of a.lit) assigned

-- the level of the newest literal, or 0
abbrev pub level_of : List Assigned → ℕ
level_of assigned = option_map_or (λ a. a.level) (slice_get assigned (length assigned - 1)) 0

-- a decision is open and begins the next level; another literal is forced by its reason, and stays on the level
abbrev pub IsPlaced : List (List Lit) → List Assigned → Assigned → Type 0
IsPlaced clauses before a =
    MatchOption a.reason (IsOpen (falses_of before) a.lit × (a.level ≡ level_of before + 1)) (λ n. Forces clauses (falses_of before) n a.lit × (a.level ≡ level_of before))

-- each literal has its place after the older ones
abbrev pub IsTrail : List (List Lit) → List Assigned → Type 0
IsTrail clauses assigned = (i : ℕ) (d : Assigned) → i < length assigned → IsPlaced clauses (take i assigned) (slice_index_or assigned i d)

-- the variable is from 1 to this one
abbrev pub IsVarUpTo : ℕ → Assigned → Type 0
IsVarUpTo vars a = (1 ≤ a.lit.var) × (a.lit.var ≤ vars)

-- more literals are true, each of them forced
pub record ForcesMore (old new : List Assigned) : Type 0 where
  pub more : List Assigned
  pub added : new ≡ old ++ more
  pub forced : All (λ a. IsSome a.reason) more

-- the oldest literals stay, up to this level, and those above it are undone
pub record IsBackTo (level : ℕ) (old new : List Assigned) : Type 0 where
  pub count : ℕ
  pub within : count ≤ length old
  pub stays : new ≡ take count old
  pub low : level_of new ≤ level
  pub undone : (j : ℕ) (d : Assigned) → count ≤ j → j < length old → level < (slice_index_or old j d).level
