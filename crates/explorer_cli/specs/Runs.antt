-- Runs of the sessions of a script, and what is printed of them.
use Rattle.std.specs.Prelude.{◌≡◌, ◌≤◌, ◌+◌, ℕ, List, [], ◌∷◌, length, Option, Some, slice_get, Contains}
use Rattle.std.specs.Global.{Vec}
use Rattle.std.specs.List.{AllZip}
use Rattle.rel_formula.specs.Bounds.{Bounded}
use Rattle.translation_rules.specs.Translation.{Translated}
use Rattle.translation.specs.Kept.{IsTranslation}
use Rattle.session_words.specs.declared.commands.Command.{Command}
use Rattle.session_rules.specs.declared.answers.Reply.{Reply}
use Rattle.session_rules.specs.States.{Start}
use Rattle.session_rules.specs.Steps.{Exchange}
use Rattle.session_rules.specs.Transcripts.{IsTranscript}
use Rattle.script_text.specs.Limits.{most_output}
use Rattle.script_text.specs.Printed.{all_printed}
use Rattle.script_text.specs.Replies.{PrintedSession, PrintsCheckableProof, IsOutput}
use Rattle.script_format.specs.declared.entries.SessionEntry.{SessionEntry}
use Rattle.hub_state.specs.Journal.Noted.{Noted}
use Rattle.hub_turns.specs.Backed.{AreBacked}
use Rattle.hub_turns.specs.Interleaved.{IsServedBy, IsInterleaving}
use Rattle.named_model.specs.Model.{NamedTree}
use Rattle.served_models.specs.declared.commands.ServedCommand.{ServedCommand}
use Rattle.served_models.specs.Served.{IsProblemOf}

-- the replies, each at the top floor before it, are a transcript of these commands: a run of the session machine over the
-- problem, from the start with this budget
abbrev pub AreRepliesOn : Bounded → ℕ → List Command → List Reply → List (List ℕ) → Type 0
AreRepliesOn p budget commands replies floors = (xs : List Exchange) × IsTranscript p (Start budget) commands replies floors xs

-- what is printed of the session is its transcript on the problem of this translation, which has clauses as a translation
-- has them. Each proof that a reply makes, and each spent budget, has its evidence over the translation and steps that rest on
-- it alone, and `check` accepts the proofs that are printed
pub record IsRunOn (t : Translated) (budget : ℕ) (x : SessionEntry) (s : PrintedSession) : Type 0 where
  pub made : IsTranslation t
  pub replies : List Reply
  pub floors : List (List ℕ)
  pub exchanges : List Exchange
  pub transcript : IsTranscript t.problem (Start budget) x.commands replies floors exchanges
  pub backed : AreBacked t (Start budget) exchanges
  pub checkable : AllZip (PrintsCheckableProof t) floors replies
  pub is : s ≡ record { problem = t.problem; name = x.name; replies = all_printed t floors replies }

-- a session is on a command of one of the models, and this is the command's problem
abbrev pub IsProblemAt : List NamedTree → SessionEntry → Bounded → Type 0
IsProblemAt models x p = (m : NamedTree) × (slice_get models x.model ≡ Some m) × IsProblemOf m x.number p

-- which translation sessions run over: one for each command, by the place of its model and its number
abbrev pub Translations : Type 0
Translations = ℕ → ℕ → Option Translated

-- the session runs on the problem of the command on which it is, over the command's translation
abbrev pub IsRunAmong : ℕ → List NamedTree → Translations → SessionEntry → PrintedSession → Type 0
IsRunAmong budget models over x s = (t : Translated) × (over x.model x.number ≡ Some t) × IsProblemAt models x t.problem × IsRunOn t budget x s

-- ---- sessions side by side

-- what sessions did side by side: the problems, by key; the key of each command, by the place of its model and its number; and the
-- journal of all events, in the order of the turns in which they happened
pub record Together : Type 0 where
  pub problems : List Bounded
  pub key_of : ℕ → ℕ → ℕ
  pub journal : List Noted

-- the journal tells the run: under this number it has just what a session did that was opened on its command's key with the
-- budget, and the transcript of that is the run's
abbrev pub TellsRun : Together → ℕ → (budget : ℕ) (models : List NamedTree) (over : Translations) (x : SessionEntry) (s : PrintedSession) → IsRunAmong budget models over x s → Type 0
TellsRun all number budget models over x s run =
    IsServedBy all.problems all.journal run.0 number (all.key_of x.model x.number) budget x.commands run.3.replies run.3.floors

-- the journal tells runs of the sessions, in order, which have the numbers from this one on
abbrev pub TellsRuns : Together → ℕ → ℕ → List NamedTree → Translations → List SessionEntry → List PrintedSession → Type 0
TellsRuns all number budget models over [] [] = Unit {0}
TellsRuns all number budget models over [] (s ∷ runs) = ⊥
TellsRuns all number budget models over (x ∷ sessions) [] = ⊥
TellsRuns all number budget models over (x ∷ sessions) (s ∷ runs) =
    ((run : IsRunAmong budget models over x s) × TellsRun all number budget models over x s run) × TellsRuns all (number + 1) budget models over sessions runs

-- these are runs of the sessions, in order; those on one command are over one translation; and one journal, legal and an
-- interleaving of what so many sessions did, tells the transcript of each
abbrev pub AreRuns : ℕ → List SessionEntry → List NamedTree → List PrintedSession → Type 0
AreRuns budget sessions models runs =
    (over : Translations) × (all : Together) × IsInterleaving all.problems all.journal (length sessions) × TellsRuns all 1 budget models over sessions runs

-- the text is the output of runs of the sessions, in order, and no longer than an output may be
abbrev pub AreRunsOf : ℕ → List SessionEntry → List NamedTree → List ℕ → Type 0
AreRunsOf budget sessions models text = (runs : List PrintedSession) × AreRuns budget sessions models runs × IsOutput runs text × (length text ≤ most_output)

-- ---- what the code serves

-- at the place of the session's model, the command on which it is has this problem
abbrev pub IsServedAt : List (Vec ServedCommand) → SessionEntry → Bounded → Type 0
IsServedAt models x p =
    (made : Vec ServedCommand) × (slice_get models x.model ≡ Some made) × ((c : ServedCommand) × Contains made.items c × (c.number ≡ x.number) × (p ≡ c.problem))

-- it has one
abbrev pub IsServed : List (Vec ServedCommand) → SessionEntry → Type 0
IsServed models x = (p : Bounded) × IsServedAt models x p
