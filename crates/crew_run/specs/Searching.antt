-- What the searches of a worker need, and what a round of them comes to.
use Rattle.std.specs.Prelude.{◌≡◌, ◌⊎◌, ◌≤◌, ℕ, List, [], length, All, Contains}
use Rattle.rel_formula.specs.Instance.{AreCells}
use Rattle.swap_symmetry.specs.Due.{IsDue}
use Rattle.translation_rules.specs.Translation.{Translated}
use Rattle.translation_rules.specs.Parts.{LastGoesOn, novel_in}
use Rattle.session_rules.specs.Proofs.{Proves, IsCopy}
use Rattle.session_rules.specs.declared.end_proof.ProofKind.TheVariants.{End}
use Rattle.session_state.specs.Rounds.Held.{IsHeldAt}
use Rattle.session_state.specs.Rounds.Rounds.{HasNewCopy, IsRoundAt}
use Rattle.crew_run.specs.declared.event.CrewEvent.{CrewEvent}
use Rattle.crew_run.specs.declared.event.CrewEvent.TheVariants.{Found, Copy, GaveUp, Ended}
use Rattle.crew_run.specs.declared.reading.Reading.{Reading}
use Rattle.crew_run.specs.declared.round.Searcher.{Searcher}

-- no imported steps, the empty floor, and a search that has blocked there what is told of
pub record IsSearcher (t : Translated) (told : List (List ℕ)) (s : Searcher) : Type 0 where
  pub no_pool : s.pool ≡ []
  pub bottom : s.floor ≡ []
  pub held : IsHeldAt t s.pool s.floor told s.search

-- what was read tells of all that was found, of sets of cells alone, and of at most a million
pub record IsReadable (t : Translated) (reading : Reading) : Type 0 where
  pub all_told : All (Contains reading.told.items) reading.found.items
  pub cells : All (AreCells t.problem) reading.told.items
  pub few : length reading.told.items ≤ 1000000

-- the event of a round with all that was read blocked
abbrev pub IsEventOf : Translated → ℕ → Reading → CrewEvent → Type 0
IsEventOf t budget reading (Found s) = IsDue t.problem [] s × (¬ Contains reading.found.items s)
IsEventOf t budget reading (Copy s) = IsCopy t.problem [] reading.found.items s × (¬ Contains reading.told.items s)
IsEventOf t budget reading (GaveUp read parts) =
    (read ≡ reading.read) × IsRoundAt t [] [] reading.told.items budget parts × (novel_in t [] parts ≡ budget) × (LastGoesOn t [] parts ⊎ HasNewCopy t.problem [] reading.found.items reading.told.items)
IsEventOf t budget reading (Ended proof) = (proof.pool ≡ []) × (proof.blocked ≡ reading.told.items) × Proves t [] End proof
