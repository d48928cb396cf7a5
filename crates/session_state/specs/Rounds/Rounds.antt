-- What one round comes to.
use Rattle.std.specs.Prelude.{◌≡◌, ◌⊎◌, ◌≤◌, ◌+◌, ℕ, List, [], ◌∷◌, Contains}
use Rattle.refutation_check.specs.declared.log.Step.{Step as LogStep}
use Rattle.refutation_check.specs.Chain.{EndsEmpty}
use Rattle.refutation_check.specs.Part.{Parted}
use Rattle.rel_formula.specs.Bounds.{Bounded}
use Rattle.swap_symmetry.specs.Due.{IsDue}
use Rattle.translation_rules.specs.Translation.{Translated}
use Rattle.translation_rules.specs.Locals.{locals_of}
use Rattle.translation_rules.specs.Parts.{AreSearched, LastGoesOn, novel_in}
use Rattle.session_rules.specs.Proofs.{IsCopy}
use Rattle.session_rules.specs.Work.{Round, IsRound, parts_of_round}
use Rattle.session_state.specs.declared.search_rounds.round.RoundEnd.{RoundEnd}
use Rattle.session_state.specs.declared.search_rounds.round.RoundEnd.TheVariants.{Due, Copy, Refuted, Spent}

abbrev pub parts_in : RoundEnd → List Parted
parts_in (Due scenario parts) = parts.items
parts_in (Copy scenario parts left) = parts.items
parts_in (Refuted part) = part ∷ []
parts_in (Spent parts) = parts.items

-- what is left of the budget for the rounds to come
abbrev pub left_in : RoundEnd → ℕ
left_in (Due scenario parts) = 0
left_in (Copy scenario parts left) = left
left_in (Refuted part) = 0
left_in (Spent parts) = 0

-- the parts are those of a round with these scenarios blocked, over the translation and the pool, with at most so many novel
-- steps
pub record IsRoundAt (t : Translated) (pool : List LogStep) (floor : List ℕ) (blocked : List (List ℕ)) (budget : ℕ) (parts : List Parted) : Type 0 where
  pub round : Round
  pub is_round : IsRound t floor blocked round
  pub all_parts : parts ≡ parts_of_round round
  pub searched : AreSearched t pool parts
  pub few : novel_in t pool parts ≤ budget

-- the scenario is due and was not shown; or it is a new copy, and with it the novel steps leave so much of the budget; or the
-- search ends with the empty clause; or the novel steps are all of the budget
abbrev pub IsRightRound : Translated → List LogStep → List ℕ → List (List ℕ) → List (List ℕ) → ℕ → RoundEnd → Type 0
IsRightRound t pool floor shown blocked budget (Due scenario parts) = IsDue t.problem floor scenario × (¬ Contains shown scenario)
IsRightRound t pool floor shown blocked budget (Copy scenario parts left) =
    IsCopy t.problem floor shown scenario × (¬ Contains blocked scenario) × (novel_in t pool parts.items + 1 + left ≡ budget)
IsRightRound t pool floor shown blocked budget (Refuted part) = (part.local ≡ locals_of t floor blocked) × EndsEmpty part.log
IsRightRound t pool floor shown blocked budget (Spent parts) = novel_in t pool parts.items ≡ budget

-- some copy of what was shown isn't blocked
abbrev pub HasNewCopy : Bounded → List ℕ → List (List ℕ) → List (List ℕ) → Type 0
HasNewCopy p floor shown blocked = (copy : List ℕ) × IsCopy p floor shown copy × (¬ Contains blocked copy)

-- where the budget is spent, the last part goes on, or no unit was left for a new copy
abbrev pub IsStoppedRound : Translated → List LogStep → List ℕ → List (List ℕ) → List (List ℕ) → RoundEnd → Type 0
IsStoppedRound t pool floor shown blocked (Due scenario parts) = Unit {0}
IsStoppedRound t pool floor shown blocked (Copy scenario parts left) = Unit {0}
IsStoppedRound t pool floor shown blocked (Refuted part) = Unit {0}
IsStoppedRound t pool floor shown blocked (Spent parts) = LastGoesOn t pool parts.items ⊎ HasNewCopy t.problem floor shown blocked
