-- The work that a search for an answer does: its parts, and the copies of shown scenarios that it finds.
use Rattle.std.specs.Prelude.{◌≡◌, ◌⊎◌, ◌+◌, ◌<◌, ℕ, List, [], ◌∷◌, ◌++◌, map, flat_map, length, All, Contains}
use Rattle.refutation_check.specs.declared.log.Step.{Step as LogStep}
use Rattle.refutation_check.specs.Part.{Parted}
use Rattle.rel_formula.specs.Bounds.{Bounded}
use Rattle.translation_rules.specs.Translation.{Translated}
use Rattle.translation_rules.specs.Locals.{IsLeft, units_of, locals_of}
use Rattle.translation_rules.specs.Parts.{AreSearched, LastGoesOn, TryCells, novel_in}
use Rattle.translation_rules.specs.Descents.{Lowering, GoesDown}
use Rattle.session_words.specs.declared.atom_names.AtomName.{AtomName}
use Rattle.session_words.specs.declared.steps.Step.{Step}
use Rattle.session_words.specs.declared.steps.Step.TheVariants.{Next, Offers, Augment, Back, Budget, Proof}
use Rattle.session_rules.specs.States.{State, top_floor, shown_here, IsCurrent}
use Rattle.session_rules.specs.Steps.{AsksFor}
use Rattle.session_rules.specs.Proofs.{IsCopy, IsCovered}

-- the searches go down, the first from what was left to be found
pub record IsDescent (p : Bounded) (floor : List ℕ) (blocked : List (List ℕ)) (xs : List Lowering) : Type 0 where
  pub down : GoesDown p floor xs
  pub first : (x : Lowering) (others : List Lowering) → xs ≡ x ∷ others → IsLeft p floor blocked x.from

-- a search for what is left, and the descent from what it found
pub record Round : Type 0 where
  pub search : Parted
  pub descent : List Lowering

-- the search of a round has these scenarios blocked
pub record IsRound (t : Translated) (floor : List ℕ) (blocked : List (List ℕ)) (round : Round) : Type 0 where
  pub local : round.search.local ≡ locals_of t floor blocked
  pub descent : IsDescent t.problem floor blocked round.descent

-- each round but the last finds a new copy, which is blocked from then on; the last may find one
abbrev pub AreRounds : Translated → List ℕ → List (List ℕ) → List (List ℕ) → List Round → List (List ℕ) → Type 0
AreRounds t floor shown blocked [] copies = copies ≡ []
AreRounds t floor shown blocked (round ∷ rounds) [] = IsRound t floor blocked round × (rounds ≡ [])
AreRounds t floor shown blocked (round ∷ rounds) (copy ∷ copies) =
    IsRound t floor blocked round × IsCopy t.problem floor shown copy × (¬ Contains blocked copy) × AreRounds t floor shown (blocked ++ copy ∷ []) rounds copies

abbrev pub parts_of_round : Round → List Parted
parts_of_round round = round.search ∷ map (λ x. x.part) round.descent

-- the parts are those of rounds, the first of which has blocked all that was shown, and else copies of it
pub record IsNextWork (t : Translated) (floor : List ℕ) (shown : List (List ℕ)) (parts : List Parted) (copies : List (List ℕ)) : Type 0 where
  pub rounds : List Round
  pub blocked : List (List ℕ)
  pub all_parts : parts ≡ flat_map parts_of_round rounds
  pub shown_blocked : All (Contains blocked) shown
  pub covered : IsCovered t.problem floor shown blocked
  pub are_rounds : AreRounds t floor shown blocked rounds copies

-- there is no part, or the parts try cells outside the current scenario
abbrev pub IsOffersWork : Bounded → State → List Parted → Type 0
IsOffersWork p s parts = (parts ≡ []) ⊎ ((current : List ℕ) × IsCurrent s current × TryCells p current parts)

-- the part has the floor that is asked for as units
pub record TriesFloor (p : Bounded) (s : State) (name : List ℕ) (names : List AtomName) (part : Parted) : Type 0 where
  pub floor : List ℕ
  pub asked : AsksFor p s name names floor
  pub local : part.local ≡ units_of floor

-- there is one part at most
pub record IsAugmentWork (p : Bounded) (s : State) (name : List ℕ) (names : List AtomName) (parts : List Parted) : Type 0 where
  pub few : length parts < 2
  pub each : All (TriesFloor p s name names) parts

-- the parts and copies are those of a search for this step's answer
abbrev pub IsWorkFor : Translated → State → Step → List Parted → List (List ℕ) → Type 0
IsWorkFor t s Next parts copies = IsNextWork t (top_floor s) (shown_here s) parts copies
IsWorkFor t s Offers parts copies = IsOffersWork t.problem s parts × (copies ≡ [])
IsWorkFor t s (Augment name names) parts copies = IsAugmentWork t.problem s name names parts × (copies ≡ [])
IsWorkFor t s Back parts copies = (parts ≡ []) × (copies ≡ [])
IsWorkFor t s (Budget budget) parts copies = (parts ≡ []) × (copies ≡ [])
IsWorkFor t s Proof parts copies = (parts ≡ []) × (copies ≡ [])

-- the work was stopped: its last part goes on, or it's work for the step with one more copy too
abbrev pub IsStopped : Translated → List LogStep → State → Step → List Parted → List (List ℕ) → Type 0
IsStopped t pool s step parts copies = LastGoesOn t pool parts ⊎ ((copy : List ℕ) × IsWorkFor t s step parts (copies ++ copy ∷ []))

-- what a session does for the answer to a step, over the translation and the imported steps
pub record IsWork (t : Translated) (pool : List LogStep) (s : State) (step : Step) (parts : List Parted) (copies : List (List ℕ)) : Type 0 where
  pub searched : AreSearched t pool parts
  pub work : IsWorkFor t s step parts copies

-- the novel steps of the parts, and the copies
abbrev pub units_in : Translated → List LogStep → List Parted → List (List ℕ) → ℕ
units_in t pool parts copies = novel_in t pool parts + length copies
