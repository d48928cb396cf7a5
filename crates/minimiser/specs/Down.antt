-- What a descent comes to, and what its parts are.
use Rattle.std.specs.Prelude.{◌≡◌, ◌≤◌, ◌⊎◌, ℕ, List, [], ◌∷◌, ◌++◌, map, All}
use Rattle.refutation_check.specs.declared.log.Step.{Step as LogStep}
use Rattle.refutation_check.specs.Chain.{EndsEmpty}
use Rattle.refutation_check.specs.Part.{Parted}
use Rattle.rel_formula.specs.Bounds.{Bounded}
use Rattle.rel_formula.specs.Instance.{IsMinimalAbove, Includes}
use Rattle.translation_rules.specs.Translation.{Translated}
use Rattle.translation_rules.specs.Parts.{AreSearched, LastGoesOn, novel_in}
use Rattle.translation_rules.specs.Descents.{Lowering, GoesDown, descent_locals}
use Rattle.minimiser.specs.declared.descent.Down.{Down}
use Rattle.minimiser.specs.declared.descent.Down.TheVariants.{Minimal, Spent}

abbrev pub parts_of : Down → List Parted
parts_of (Minimal scenario parts) = parts.items
parts_of (Spent parts) = parts.items

-- the parts are those of searches that go down from the start, and none leaves it
pub record AreDescent (p : Bounded) (floor start : List ℕ) (parts : List Parted) : Type 0 where
  pub lowerings : List Lowering
  pub all_parts : parts ≡ map (λ x. x.part) lowerings
  pub down : GoesDown p floor lowerings
  pub first : (x : Lowering) (others : List Lowering) → lowerings ≡ x ∷ others → x.from ≡ start
  pub within : All (λ x. Includes start x.from) lowerings

-- the parts are those of a descent from the start, over the translation and the pool, with at most so many novel steps
pub record IsDescent (t : Translated) (pool : List LogStep) (floor start : List ℕ) (budget : ℕ) (parts : List Parted) : Type 0 where
  pub descent : AreDescent t.problem floor start parts
  pub searched : AreSearched t pool parts
  pub few : novel_in t pool parts ≤ budget

-- the last part is the search for an instance above the floor that lies below the scenario, and its log ends with the empty clause
abbrev pub RefutesSmaller : Translated → List ℕ → List ℕ → List Parted → Type 0
RefutesSmaller t floor scenario parts = (before : List Parted) × (last : Parted) × (parts ≡ before ++ last ∷ []) × (last.local ≡ descent_locals t.problem floor scenario) × EndsEmpty last.log

-- the scenario is minimal above the floor, as the last part shows, and lies in the start; or the budget is spent, all of it
abbrev pub IsRight : Translated → List LogStep → List ℕ → List ℕ → ℕ → Down → Type 0
IsRight t pool floor start budget (Minimal scenario parts) = IsMinimalAbove t.problem floor scenario × Includes start scenario × RefutesSmaller t floor scenario parts.items
IsRight t pool floor start budget (Spent parts) = novel_in t pool parts.items ≡ budget

-- the same, save that there may be no part where the scenario is minimal
abbrev pub IsRightOn : Translated → List LogStep → List ℕ → List ℕ → ℕ → Down → Type 0
IsRightOn t pool floor start budget (Minimal scenario parts) = IsMinimalAbove t.problem floor scenario × Includes start scenario × ((parts.items ≡ []) ⊎ RefutesSmaller t floor scenario parts.items)
IsRightOn t pool floor start budget (Spent parts) = novel_in t pool parts.items ≡ budget

-- where the budget is spent, the last search was stopped: it goes on
abbrev pub IsStopped : Translated → List LogStep → Down → Type 0
IsStopped t pool (Minimal scenario parts) = Unit {0}
IsStopped t pool (Spent parts) = LastGoesOn t pool parts.items
