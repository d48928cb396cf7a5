-- A journal as an interleaving of what sessions did.
use Rattle.std.specs.Prelude.{◌≡◌, ◌≤◌, ℕ, List, ◌∷◌, ◌++◌, All}
use Rattle.rel_formula.specs.Bounds.{Bounded}
use Rattle.translation_rules.specs.Translation.{Translated}
use Rattle.session_words.specs.declared.commands.Command.{Command}
use Rattle.session_words.specs.declared.steps.Step.{Step}
use Rattle.session_rules.specs.States.{State}
use Rattle.session_rules.specs.declared.answers.Reply.{Reply}
use Rattle.hub_state.specs.Journal.Noted.{Note, Published, Opened, Recorded, Noted}
use Rattle.hub_state.specs.Journal.Journal.{IsPublished, IsReplay, IsLegal}
use Rattle.hub_state.specs.Journal.Told.{IsTold}
use Rattle.hub_turns.specs.Groups.{notes_of, AreGroups, SharesItsProof}

-- before each reply that it recorded the session shared the free steps of the proof that the reply makes
abbrev pub SharesItsProofs : List Bounded → List Noted → ℕ → ℕ → Translated → Type 0
SharesItsProofs problems journal number key t =
    (before : List Noted) (step : Step) (reply : Reply) (later : List Noted) (s : State) → journal ≡ before ++ record { by = number; note = Recorded step reply } ∷ later
    → IsReplay problems before number key t.problem s → SharesItsProof before number key t s step reply

-- what one session did: it was opened with this budget, and then made one group for each exchange of its transcript, over the
-- key's translation; the replies are what it recorded, and it shared the free steps of its proofs
pub record IsServedBy (problems : List Bounded) (journal : List Noted) (t : Translated) (number key budget : ℕ) (commands : List Command) (replies : List Reply) (floors : List (List ℕ)) : Type 0 where
  pub told : IsTold problems journal number key budget commands replies floors
  pub groups : List Note
  pub notes : notes_of number journal ≡ Opened key budget ∷ groups
  pub are_groups : AreGroups key told.exchanges groups
  pub published : IsPublished journal key t
  pub shares : SharesItsProofs problems journal number key t

-- the journal is legal; its entries are those of so many sessions, under their numbers from 1 on, and under 0 publications
pub record IsInterleaving (problems : List Bounded) (journal : List Noted) (sessions : ℕ) : Type 0 where
  pub legal : IsLegal problems journal
  pub numbers : All (λ x. x.by ≤ sessions) journal
  pub publications : All (λ note. (key : ℕ) × (t : Translated) × (note ≡ Published key t)) (notes_of 0 journal)
