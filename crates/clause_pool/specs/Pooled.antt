-- What the fields of a pool and of a renumbering keep.
use Rattle.std.specs.Prelude.{◌≡◌, ◌≢◌, ◌==◌, ◌+◌, ◌<◌, ◌≤◌, ◌^◌, ℕ, suc, Bool, not, List, length, map, slice_index}
use Rattle.std.specs.List.{flat_map}
use Rattle.refutation_check.specs.declared.log.Step.{Step}
use Rattle.refutation_check.specs.Renumbering.{kept_number}
use Rattle.clause_pool.specs.Limits.{numbers_in, IsWithinLimits}

-- the lists that were shared, one after the other
abbrev pub steps_of : List (List Step) → List Step
steps_of shared = flat_map (λ log. log) shared

-- both counts are right, and the steps are within the limits
pub record IsCounted (pool : List Step) (steps numbers : ℕ) : Type 0 where
  pub steps_are : steps ≡ length pool
  pub numbers_are : numbers ≡ numbers_in pool
  pub limits : IsWithinLimits pool

-- which own steps have a new number
abbrev pub marks_of : List ℕ → List Bool
marks_of numbers = map (λ n. not (n == 0)) numbers

-- each new number of an own step, where it isn't 0, counts the kept steps up to it, behind so many kept members
abbrev pub HasNewNumbers : ℕ → List ℕ → Type 0
HasNewNumbers before numbers = (k : ℕ) → k < length numbers → slice_index numbers k ≢ 0 → slice_index numbers k ≡ before + kept_number (suc k) (marks_of numbers)

-- the new numbers of the own steps are right, and the last of them that was given
pub record IsTable (before last : ℕ) (numbers : List ℕ) : Type 0 where
  pub each : HasNewNumbers before numbers
  pub last_is : last ≡ before + kept_number (length numbers) (marks_of numbers)
