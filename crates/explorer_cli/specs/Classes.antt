-- What `distinct` prints of runs: as `run` does, but that a list which ends the bottom floor is told by classes of renamings.
use Rattle.std.specs.Prelude.{◌≡◌, ◌↔◌, ◌≤◌, ◌+◌, ℕ, List, [], ◌∷◌, ◌++◌, length, codes, decimal, AllPairs, Contains, Some, slice_get}
use Rattle.std.specs.List.{AllZip}
use Rattle.rel_formula.specs.Bounds.{Bounded}
use Rattle.rel_formula.specs.Instance.{IsMinimalAbove}
use Rattle.rel_formula.specs.Renaming.{IsRenamingOf}
use Rattle.swap_symmetry.specs.Order.{IsEarlier}
use Rattle.renaming_classes.specs.Least.{IsLeast}
use Rattle.renaming_classes.specs.Classes.{AreClasses}
use Rattle.translation_rules.specs.Translation.{Translated}
use Rattle.translation.specs.Kept.{IsTranslation}
use Rattle.session_rules.specs.declared.script.SessionScript.{SessionScript}
use Rattle.session_rules.specs.declared.script.Transcript.{Transcript}
use Rattle.script_text.specs.Limits.{most_output}
use Rattle.script_text.specs.Printed.{Printed, listed, all_printed}
use Rattle.script_text.specs.Replies.{PrintedSession, PrintsCheckableProof, AreNumbered, IsReplyText, IsSessionText}
use Rattle.script_format.specs.declared.entries.SessionEntry.{SessionEntry}
use Rattle.named_model.specs.Model.{NamedTree}
use Rattle.served_models.specs.declared.purposes.Purpose.{Purpose}
use Rattle.served_models.specs.declared.purposes.Purpose.TheVariants.{Lists, Classes}
use Rattle.hub_turns.specs.Interleaved.{IsInterleaving}
use Rattle.explorer_cli.specs.Runs.{Translations, IsRunAmong, Together, TellsRun}

-- scenarios that are numbered from 1, and how many they are
abbrev pub AreClassLines : Bounded → List (List ℕ) → List ℕ → Type 0
AreClassLines p scenarios text = (lines : List ℕ) × AreNumbered p (codes "class ") 1 scenarios lines × (text ≡ lines ++ codes "classes " ++ decimal (length scenarios) ++ codes "\n")

-- a list by classes: of each class of its scenarios the least member, the earlier ones first
abbrev pub IsListByClass : Bounded → List (List ℕ) → List ℕ → Type 0
IsListByClass p scenarios text = (members : List (List ℕ)) × AreClasses p scenarios members × AreClassLines p members text

-- the lines of a reply at this floor: at the bottom a list that ends it is told by classes
abbrev pub IsClassedReply : Bounded → List ℕ → Printed → List ℕ → Type 0
IsClassedReply p [] (listed scenarios) text = IsListByClass p scenarios text
IsClassedReply p floor r text = IsReplyText p r text

-- the lines of replies, one after the other, each at the floor of its place
abbrev pub AreClassedReplies : Bounded → List (List ℕ) → List Printed → List ℕ → Type 0
AreClassedReplies p [] [] text = text ≡ []
AreClassedReplies p [] (r ∷ rs) text = ⊥
AreClassedReplies p (floor ∷ floors) [] text = ⊥
AreClassedReplies p (floor ∷ floors) (r ∷ rs) text =
    (first : List ℕ) × (others : List ℕ) × IsClassedReply p floor r first × AreClassedReplies p floors rs others × (text ≡ first ++ others)

-- `== `, the session's name, and the lines of its replies
abbrev pub IsClassedSession : Bounded → List ℕ → List (List ℕ) → List Printed → List ℕ → Type 0
IsClassedSession p name floors replies text = (lines : List ℕ) × AreClassedReplies p floors replies lines × (text ≡ codes "== " ++ name ++ codes "\n" ++ lines)

-- a run of the session on its command's problem, and its text by classes
abbrev pub IsClassedRun : ℕ → List NamedTree → Translations → SessionEntry → List ℕ → Type 0
IsClassedRun budget models over x text = (s : PrintedSession) × (run : IsRunAmong budget models over x s) × IsClassedSession s.problem s.name run.3.floors s.replies text

-- the texts of runs of the sessions, one after the other; the journal tells the runs, which have the numbers from this one on
abbrev pub AreClassedRuns : Together → ℕ → ℕ → List NamedTree → Translations → List SessionEntry → List ℕ → Type 0
AreClassedRuns all number budget models over [] text = text ≡ []
AreClassedRuns all number budget models over (x ∷ sessions) text =
    (first : List ℕ) × (rest : List ℕ) × ((run : IsClassedRun budget models over x first) × TellsRun all number budget models over x run.0 run.1)
    × AreClassedRuns all (number + 1) budget models over sessions rest × (text ≡ first ++ rest)

-- the text is that of runs of the sessions, in order, by classes; those on one command are over one translation; one journal, legal
-- and an interleaving of what so many sessions did, tells the transcript of each; and it is no longer than an output may be
abbrev pub AreClassedRunsOf : ℕ → List SessionEntry → List NamedTree → List ℕ → Type 0
AreClassedRunsOf budget sessions models text =
    (over : Translations) × (all : Together) × IsInterleaving all.problems all.journal (length sessions)
    × AreClassedRuns all 1 budget models over sessions text × (length text ≤ most_output)

-- ---- what is told of the bottom floor

-- the lines tell one scenario of each class of the minimal instances, namely the least: just the minimal instances that are the
-- least of their renamings, no two of which are renamings of each other, and each minimal instance is a renaming of one
pub record TellsClasses (p : Bounded) (text : List ℕ) : Type 0 where
  pub members : List (List ℕ)
  pub lines : AreClassLines p members text
  pub exactly : (x : List ℕ) → Contains members x ↔ (IsMinimalAbove p [] x × IsLeast p x)
  pub apart : AllPairs (λ x y. ¬ IsRenamingOf p x y) members
  pub sorted : AllPairs IsEarlier members
  pub complete : (x : List ℕ) → IsMinimalAbove p [] x → (y : List ℕ) × Contains members y × IsRenamingOf p x y

-- they stand in the text
abbrev pub HasClasses : Bounded → List ℕ → Type 0
HasClasses p text = (before : List ℕ) × (lines : List ℕ) × (behind : List ℕ) × TellsClasses p lines × (text ≡ before ++ lines ++ behind)

-- ---- what the code has told

-- the text of a session with these replies, each at its floor, as the purpose has it
abbrev pub IsToldText : Purpose → Bounded → List ℕ → List (List ℕ) → List Printed → List ℕ → Type 0
IsToldText Lists p name floors replies text = IsSessionText p name replies text
IsToldText Classes p name floors replies text = IsClassedSession p name floors replies text

-- the text of a session's transcript over a translation, as the purpose has it; `check` accepts the proofs that are printed
pub record IsTranscriptText (purpose : Purpose) (t : Translated) (name : List ℕ) (y : Transcript) (text : List ℕ) : Type 0 where
  pub made : IsTranslation t
  pub told : IsToldText purpose t.problem name y.floors (all_printed t y.floors y.replies) text
  pub checkable : AllZip (PrintsCheckableProof t) y.floors y.replies

-- the texts of the transcripts, one after the other, each over the translation of its session's key
abbrev pub AreTranscriptTexts : Purpose → List Translated → List SessionScript → List Transcript → List ℕ → Type 0
AreTranscriptTexts purpose translations [] [] text = text ≡ []
AreTranscriptTexts purpose translations [] (y ∷ transcripts) text = ⊥
AreTranscriptTexts purpose translations (x ∷ scripts) [] text = ⊥
AreTranscriptTexts purpose translations (x ∷ scripts) (y ∷ transcripts) text =
    (first : List ℕ) × (rest : List ℕ) × ((t : Translated) × (slice_get translations x.key ≡ Some t) × IsTranscriptText purpose t x.name y first)
    × AreTranscriptTexts purpose translations scripts transcripts rest × (text ≡ first ++ rest)
