-- What a session is when it was just opened, and what it leaves behind its last command.
use Rattle.std.specs.Prelude.{◌≡◌, ℕ, List, [], ◌∷◌, All}
use Rattle.std.specs.List.{AllZip}
use Rattle.hub_lock.specs.Passes.{PassView}
use Rattle.rel_formula.specs.Bounds.{Bounded}
use Rattle.rel_formula.specs.Instance.{AreCells}
use Rattle.translation_rules.specs.Translation.{Translated}
use Rattle.session_words.specs.declared.commands.Command.{Command}
use Rattle.session_rules.specs.States.{Start}
use Rattle.session_rules.specs.declared.script.Transcript.{Transcript}
use Rattle.session_state.specs.Sessions.Fits.{InSession}
use Rattle.session_turns.specs.Serving.{IsPrintable}
use Rattle.hub_state.specs.Journal.Noted.{Noted, Opened}
use Rattle.hub_turns.specs.Interleaved.{IsServedBy}

-- the session is one on this key, at its start with this budget, and that it was opened is all that was added under the pass's
-- number
pub record IsOpened (key budget : ℕ) (p : PassView Noted (List Bounded)) (x : InSession) : Type 0 where
  pub key_is : x.key ≡ key
  pub state : x.kept.state ≡ Start budget
  pub own : p.view.own ≡ record { by = p.view.number; note = Opened key budget } ∷ []

-- a session with these commands was served over the key's translation; the journal tells its transcript; and that can be
-- printed
pub record IsServedScript (problems : List Bounded) (journal : List Noted) (t : Translated) (number key budget : ℕ) (commands : List Command) (x : Transcript) : Type 0 where
  pub served : IsServedBy problems journal t number key budget commands x.replies x.floors
  pub cells : All (AreCells t.problem) x.floors
  pub printable : AllZip (IsPrintable t) x.floors x.replies
