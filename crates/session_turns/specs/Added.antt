-- What steps and commands of a session add to the journal, and what they lead to.
use Rattle.std.specs.Prelude.{◌≡◌, ◌⊎◌, ◌∷◌, ◌++◌, ℕ, List, [], map}
use Rattle.refutation_check.specs.declared.log.Step.{Step as LogStep}
use Rattle.hub_lock.specs.Passes.{PassView}
use Rattle.rel_formula.specs.Bounds.{Bounded}
use Rattle.translation_rules.specs.Translation.{Translated}
use Rattle.session_words.specs.declared.steps.Step.{Step}
use Rattle.session_words.specs.declared.commands.Command.{Command}
use Rattle.session_rules.specs.States.{after}
use Rattle.session_rules.specs.Steps.{Exchange, MachineStep, state_after}
use Rattle.session_rules.specs.Transcripts.{Serves, showings}
use Rattle.session_rules.specs.Evidence.{NeedsEvidence}
use Rattle.session_rules.specs.declared.answers.Reply.{Reply}
use Rattle.session_rules.specs.declared.answers.Reply.TheVariants.{Memory}
use Rattle.session_state.specs.Sessions.Fits.{InSession}
use Rattle.session_state.specs.Sessions.Proposed.{Proposed, IsProposal}
use Rattle.session_turns.specs.Showing.{HasShown, next_number}
use Rattle.hub_state.specs.Journal.Noted.{Note, Noted, Recorded}
use Rattle.hub_state.specs.Journal.Journal.{HasImported}
use Rattle.hub_turns.specs.Groups.{IsBeforeRecord, IsGroup, AreGroups, SharesItsProof}

-- these entries were added under the pass's number
abbrev pub HasAddedAll : PassView Noted (List Bounded) → PassView Noted (List Bounded) → List Note → Type 0
HasAddedAll old new notes = new.view.own ≡ old.view.own ++ map (λ note. record { by = old.view.number; note = note }) notes

-- what comes before the record of the step was added
abbrev pub HasBegun : PassView Noted (List Bounded) → PassView Noted (List Bounded) → Step → InSession → Type 0
HasBegun old new step x = (notes : List Note) × HasAddedAll old new notes × IsBeforeRecord step x.key notes

-- the session may give the proposed reply, which rests on the pool that it imported last; and it shared the free steps of the
-- proof that the reply makes
pub record HasProposed (t : Translated) (p : PassView Noted (List Bounded)) (x : InSession) (step : Step) (proposed : Proposed) : Type 0 where
  pub pool : List LogStep
  pub proposal : IsProposal t pool x.kept.state step proposed
  pub imported : NeedsEvidence x.kept.state proposed.reply → HasImported p.view.seen p.view.number x.key t pool
  pub shared : SharesItsProof p.view.seen p.view.number x.key t x.kept.state step proposed.reply

-- the reply was recorded and taken in, or memory was wanting, and nothing was added and nothing changed
abbrev pub HasSettled : PassView Noted (List Bounded) → PassView Noted (List Bounded) → InSession → InSession → Step → Reply → Reply → Type 0
HasSettled old new before now step proposed reply =
    ((reply ≡ Memory) × (new.view.own ≡ old.view.own) × (now.kept.state ≡ before.kept.state))
    ⊎ ((reply ≡ proposed) × HasAddedAll old new (Recorded step proposed ∷ []) × (now.kept.state ≡ after before.kept.state proposed))

-- the step was answered: the machine may give the reply, and its group was added
pub record HasAnswered (t : Translated) (old new : PassView Noted (List Bounded)) (before now : InSession) (step : Step) (reply : Reply) : Type 0 where
  pub machine : MachineStep t.problem before.kept.state step reply now.kept.state
  pub notes : List Note
  pub added : HasAddedAll old new notes
  pub group : IsGroup before.key (record { step = step; reply = reply }) notes

-- the command was answered: its reply stands for these exchanges, which added one group each
pub record HasServed (t : Translated) (old new : PassView Noted (List Bounded)) (before now : InSession) (command : Command) (reply : Reply) : Type 0 where
  pub exchanges : List Exchange
  pub serves : Serves t.problem before.kept.state command reply exchanges
  pub state : now.kept.state ≡ state_after before.kept.state exchanges
  pub notes : List Note
  pub added : HasAddedAll old new notes
  pub groups : AreGroups before.key exchanges notes

-- so many scenarios were shown, one after the other, each of which added its group
pub record HasShownAll (t : Translated) (old new : PassView Noted (List Bounded)) (before now : InSession) (scenarios : List (List ℕ)) : Type 0 where
  pub shown : HasShown t.problem before.kept.state scenarios now.kept.state
  pub notes : List Note
  pub added : HasAddedAll old new notes
  pub groups : AreGroups before.key (showings (next_number before.kept.state) scenarios) notes
