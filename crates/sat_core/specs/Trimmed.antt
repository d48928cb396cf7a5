-- The steps of a log that its last step needs: itself, and those that a hint of one of them names.
use Rattle.std.specs.Prelude.{◌≡◌, ◌<◌, ◌≤◌, ◌+◌, ◌-◌, ◌⊎◌, [], ◌∷◌, ℕ, Bool, true, false, List, All, Contains, length, map, nat_lt, slice_index_or, if◌then◌else◌}
use Rattle.refutation_check.specs.declared.log.Step.{Step}
use Rattle.refutation_check.specs.Renumbering.{kept_number}
use Rattle.sat_core.specs.Assuming.{numbered}
use Rattle.sat_core.specs.declared.search.Answer.{Answer}
use Rattle.sat_core.specs.declared.search.Answer.TheVariants.{Found, Refuted, Spent}

-- a hint of the later step names the step at this place, where hints number so many clauses first
pub record IsNamedAt (given : ℕ) (steps : List Step) (place later : ℕ) : Type 0 where
  pub after : place < later
  pub within : later < length steps
  pub named : (d : Step) → Contains (slice_index_or steps later d).hints (given + place + 1)

-- where the answer is a refutation, each step but the last is named by a hint of a later one
abbrev pub IsUsedUp : ℕ → Answer → Type 0
IsUsedUp given (Found valuation log) = Unit {0}
IsUsedUp given (Refuted log) = (place : ℕ) → place + 1 < length log → (later : ℕ) × IsNamedAt given log place later
IsUsedUp given (Spent log) = Unit {0}

-- each hint of a step names one of so many clauses or an earlier step
abbrev pub NamesBefore : ℕ → List Step → Type 0
NamesBefore given steps = (i : ℕ) (d : Step) → i < length steps → All (λ hint. hint ≤ given + i) (slice_index_or steps i d).hints

-- the step at this place has a mark
abbrev pub IsMarked : List Bool → ℕ → Type 0
IsMarked marks place = slice_index_or marks place false ≡ true

-- so many marks, of which the last one alone is set
pub record IsLastMarked (count : ℕ) (marks : List Bool) : Type 0 where
  pub as_many : length marks ≡ count
  pub last : (place : ℕ) → place + 1 ≡ count → IsMarked marks place
  pub no_other : (place : ℕ) → IsMarked marks place → place + 1 ≡ count

-- the steps that these hints name are marked too, and no others
pub record IsMarkedBy (given : ℕ) (hints : List ℕ) (old new : List Bool) : Type 0 where
  pub as_many : length new ≡ length old
  pub stays : (place : ℕ) → IsMarked old place → IsMarked new place
  pub named : All (λ hint. given < hint → IsMarked new (hint - given - 1)) hints
  pub no_other : (place : ℕ) → IsMarked new place → IsMarked old place ⊎ Contains hints (given + place + 1)

-- the last step is marked, and another one only where a later one that is marked names it; of the steps from this place on that are
-- marked each has marked what it names
pub record AreNeededFrom (given : ℕ) (steps : List Step) (from : ℕ) (marks : List Bool) : Type 0 where
  pub as_many : length marks ≡ length steps
  pub last : (place : ℕ) → place + 1 ≡ length steps → IsMarked marks place
  pub named : (place : ℕ) (d : Step) → from ≤ place → place < length steps → IsMarked marks place → All (λ hint. given < hint → IsMarked marks (hint - given - 1)) (slice_index_or steps place d).hints
  pub needed : (place : ℕ) → place + 1 < length steps → IsMarked marks place → (later : ℕ) × IsMarked marks later × IsNamedAt given steps place later

-- the number of each marked step, where those without a mark are left out
pub record AreNumbers (given : ℕ) (marks : List Bool) (numbers : List ℕ) : Type 0 where
  pub as_many : length numbers ≡ length marks
  pub each : (place : ℕ) → place < length marks → slice_index_or numbers place 0 ≡ given + kept_number (place + 1) marks

-- the steps that are marked
abbrev pub marked_steps : List Bool → List Step → List Step
marked_steps [] steps = []
marked_steps (m ∷ marks) [] = []
marked_steps (m ∷ marks) (s ∷ steps) = if m then s ∷ marked_steps marks steps else marked_steps marks steps

-- a hint by these numbers of the steps: so many clauses keep theirs
abbrev pub number_by : ℕ → List ℕ → ℕ → ℕ
number_by given numbers hint = if nat_lt given hint then slice_index_or numbers (hint - given - 1) 0 else hint

-- the marked steps by these numbers
abbrev pub trimmed_by : ℕ → List ℕ → List Bool → List Step → List Step
trimmed_by given numbers marks steps = map (numbered (number_by given numbers)) (marked_steps marks steps)

-- the steps that the last one needs
pub record IsTrimmed (given : ℕ) (steps trimmed : List Step) : Type 0 where
  pub marks : List Bool
  pub numbers : List ℕ
  pub needed : AreNeededFrom given steps 0 marks
  pub counted : AreNumbers given marks numbers
  pub steps_are : trimmed ≡ trimmed_by given numbers marks steps
