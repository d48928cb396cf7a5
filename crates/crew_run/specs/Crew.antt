-- What a crew writes down, when its journal is in order, and what its answer says.
use Rattle.std.specs.Prelude.{◌≡◌, ◌≢◌, ◌⊎◌, ◌↔◌, ◌<◌, ◌≤◌, ℕ, List, [], ◌∷◌, ◌++◌, take, drop, length, All, AllPairs, Contains}
use Rattle.std.specs.List.{flat_map}
use Rattle.refutation_check.specs.Part.{Parted}
use Rattle.swap_symmetry.specs.Order.{IsEarlier}
use Rattle.swap_symmetry.specs.Due.{IsDue}
use Rattle.translation_rules.specs.Translation.{Translated}
use Rattle.translation_rules.specs.Parts.{LastGoesOn, novel_in}
use Rattle.session_rules.specs.ProofOfEnd.{ProofOfEnd}
use Rattle.session_rules.specs.Proofs.{Proves, IsCopy, IsCovered}
use Rattle.session_rules.specs.declared.end_proof.ProofKind.TheVariants.{End}
use Rattle.session_state.specs.Rounds.Rounds.{HasNewCopy, IsRoundAt}
use Rattle.crew_run.specs.declared.event.CrewEvent.{CrewEvent}
use Rattle.crew_run.specs.declared.event.CrewEvent.TheVariants.{Found, Copy, GaveUp, Ended}
use Rattle.crew_run.specs.declared.event.CrewEntry.{CrewEntry}
use Rattle.crew_run.specs.declared.answer.CrewAnswer.{CrewAnswer}
use Rattle.crew_run.specs.declared.answer.CrewAnswer.TheVariants.{Ended as HasEndedWith, Spent, Full}

-- the scenario that the event says was found
abbrev pub found_by : CrewEvent → List (List ℕ)
found_by (Found scenario) = scenario ∷ []
found_by event = []

-- the scenario that it tells of: one that was found, or a copy that was met
abbrev pub told_by : CrewEvent → List (List ℕ)
told_by (Found scenario) = scenario ∷ []
told_by (Copy scenario) = scenario ∷ []
told_by event = []

-- what a journal says was found, and all that it tells of, in order
abbrev pub found : List CrewEntry → List (List ℕ)
found journal = flat_map (λ e. found_by e.event) journal

abbrev pub told : List CrewEntry → List (List ℕ)
told journal = flat_map (λ e. told_by e.event) journal

-- due, and not found before
pub record Finds (t : Translated) (before : List CrewEntry) (s : List ℕ) : Type 0 where
  pub due : IsDue t.problem [] s
  pub fresh : ¬ Contains (found before) s

-- a copy of what was found, and not met before
pub record Meets (t : Translated) (before : List CrewEntry) (s : List ℕ) : Type 0 where
  pub copy : IsCopy t.problem [] (found before) s
  pub fresh : ¬ Contains (told before) s

-- the worker had read so many entries, its own among them; and a round with all that they tell of blocked took the whole budget,
-- and was stopped there: its last part goes on, or no unit was left for a new copy
pub record GivesUp (t : Translated) (budget : ℕ) (before : List CrewEntry) (by read : ℕ) (parts : List Parted) : Type 0 where
  pub within : read ≤ length before
  pub own : All (λ e. e.by ≢ by) (drop read before)
  pub round : IsRoundAt t [] [] (told (take read before)) budget parts
  pub spent : novel_in t [] parts ≡ budget
  pub stopped : LastGoesOn t [] parts ⊎ HasNewCopy t.problem [] (found (take read before)) (told (take read before))

-- a proof, without imported steps, that nothing is left but what was found, and copies of it
pub record Ends (t : Translated) (before : List CrewEntry) (proof : ProofOfEnd) : Type 0 where
  pub alone : proof.pool ≡ []
  pub proves : Proves t [] End proof
  pub covered : IsCovered t.problem [] (found before) proof.blocked

-- the event may come behind these entries, under this number
abbrev pub MayFollow : Translated → ℕ → List CrewEntry → ℕ → CrewEvent → Type 0
MayFollow t budget before by (Found s) = Finds t before s
MayFollow t budget before by (Copy s) = Meets t before s
MayFollow t budget before by (GaveUp read parts) = GivesUp t budget before by read parts
MayFollow t budget before by (Ended proof) = Ends t before proof

abbrev pub HasEnded : List CrewEntry → Type 0
HasEnded journal = (by : ℕ) × (proof : ProofOfEnd) × Contains journal (record { by = by; event = Ended proof })

abbrev pub HasGivenUp : List CrewEntry → ℕ → Type 0
HasGivenUp journal by = (read : ℕ) × (parts : List Parted) × Contains journal (record { by = by; event = GaveUp read parts })

-- each entry may follow those before it, none follows an end, and at most so many scenarios are told of
pub record IsCrewJournal (t : Translated) (budget most : ℕ) (journal : List CrewEntry) : Type 0 where
  pub each : (before : List CrewEntry) (e : CrewEntry) (after : List CrewEntry) → journal ≡ before ++ e ∷ after → MayFollow t budget before e.by e.event × ¬ HasEnded before
  pub few : length (told journal) ≤ most

-- such a journal, by workers with the numbers from 1 on, without an end
pub record IsUnended (t : Translated) (workers budget most : ℕ) (journal : List CrewEntry) : Type 0 where
  pub legal : IsCrewJournal t budget most journal
  pub numbers : All (λ e. (1 ≤ e.by) × (e.by ≤ workers)) journal
  pub not_ended : ¬ HasEnded journal

-- the scenarios are those that are due, each once and the earlier ones first; and the proof shows that nothing is left but these,
-- and copies of them
pub record ListsAll (t : Translated) (scenarios : List (List ℕ)) (proof : ProofOfEnd) : Type 0 where
  pub due : (s : List ℕ) → Contains scenarios s ↔ IsDue t.problem [] s
  pub sorted : AllPairs IsEarlier scenarios
  pub alone : proof.pool ≡ []
  pub proves : Proves t [] End proof
  pub covered : IsCovered t.problem [] scenarios proof.blocked

-- all that is due is listed; or each worker has given up; or the journal tells of as many scenarios as it may
abbrev pub IsCrewAnswer : Translated → ℕ → ℕ → ℕ → CrewAnswer → Type 0
IsCrewAnswer t workers budget most (HasEndedWith scenarios proof) = ListsAll t scenarios.items proof
IsCrewAnswer t workers budget most (Spent journal) =
    IsUnended t workers budget most journal.items × (length (told journal.items) < most) × ((by : ℕ) → 1 ≤ by → by ≤ workers → HasGivenUp journal.items by)
IsCrewAnswer t workers budget most (Full journal) = IsUnended t workers budget most journal.items × (length (told journal.items) ≡ most)
