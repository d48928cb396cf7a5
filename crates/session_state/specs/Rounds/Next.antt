-- What a session finds for the next scenario at a floor.
use Rattle.std.specs.Prelude.{◌≡◌, ◌⊎◌, ◌++◌, ◌∷◌, [], ℕ, List, Contains}
use Rattle.refutation_check.specs.declared.log.Step.{Step as LogStep}
use Rattle.refutation_check.specs.Part.{Parted}
use Rattle.swap_symmetry.specs.Due.{IsDue}
use Rattle.translation_rules.specs.Translation.{Translated}
use Rattle.translation_rules.specs.Locals.{locals_of}
use Rattle.translation_rules.specs.Parts.{LastGoesOn}
use Rattle.session_rules.specs.ProofOfEnd.{ProofOfEnd}
use Rattle.session_rules.specs.Proofs.{Proves, IsCovered}
use Rattle.session_rules.specs.Work.{IsNextWork, units_in}
use Rattle.session_rules.specs.declared.end_proof.ProofKind.TheVariants.{End}
use Rattle.session_state.specs.declared.search_rounds.next.Found.{Found}
use Rattle.session_state.specs.declared.search_rounds.next.Found.TheVariants.{Shown, Ended, Spent}

-- the proof imported these steps, blocks these scenarios, and shows that nothing is left at the floor but what was shown, and
-- copies of it; so all that is due there was shown; and its log is that of the last part
pub record IsEndAt (t : Translated) (pool : List LogStep) (floor : List ℕ) (shown blocked : List (List ℕ)) (parts : List Parted) (proof : ProofOfEnd) : Type 0 where
  pub imports : proof.pool ≡ pool
  pub blocks : proof.blocked ≡ blocked
  pub proves : Proves t floor End proof
  pub covered : IsCovered t.problem floor shown proof.blocked
  pub complete : (x : List ℕ) → IsDue t.problem floor x → Contains shown x
  pub before : List Parted
  pub last : parts ≡ before ++ record { local = locals_of t floor proof.blocked; log = proof.log } ∷ []

-- the scenario is due at the floor and was not shown; the proof is that of an end; or the units are all of the budget
abbrev pub IsAnswer : Translated → List LogStep → List ℕ → List (List ℕ) → List (List ℕ) → ℕ → List Parted → List (List ℕ) → Found → Type 0
IsAnswer t pool floor shown copies budget parts found (Shown scenario) = IsDue t.problem floor scenario × (¬ Contains shown scenario)
IsAnswer t pool floor shown copies budget parts found (Ended proof) = IsEndAt t pool floor shown (shown ++ copies ++ found) parts proof
IsAnswer t pool floor shown copies budget parts found Spent = units_in t pool parts found ≡ budget

-- where the budget is spent, the last part goes on, or the parts are those of rounds with one more copy too
abbrev pub IsStopped : Translated → List LogStep → List ℕ → List (List ℕ) → List Parted → List (List ℕ) → Found → Type 0
IsStopped t pool floor shown parts found (Shown scenario) = Unit {0}
IsStopped t pool floor shown parts found (Ended proof) = Unit {0}
IsStopped t pool floor shown parts found Spent = LastGoesOn t pool parts ⊎ ((copy : List ℕ) × IsNextWork t floor shown parts (found ++ copy ∷ []))
