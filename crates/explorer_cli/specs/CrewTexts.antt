-- What `crew` writes: of each command on which sessions are, once, what a crew finds.
use Rattle.std.specs.Prelude.{◌≡◌, ◌↔◌, ◌≤◌, ◌<◌, ◌+◌, ℕ, List, [], ◌∷◌, ◌++◌, length, codes, decimal, AllPairs, Contains}
use Rattle.rel_formula.specs.Bounds.{Bounded}
use Rattle.swap_symmetry.specs.Due.{IsDue}
use Rattle.swap_symmetry.specs.Order.{IsEarlier}
use Rattle.translation_rules.specs.Translation.{Translated}
use Rattle.translation.specs.Kept.{IsTranslation}
use Rattle.script_format.specs.declared.entries.ModelEntry.{ModelEntry}
use Rattle.script_format.specs.declared.entries.SessionEntry.{SessionEntry}
use Rattle.script_text.specs.Limits.{most_output}
use Rattle.script_text.specs.Printed.{listed}
use Rattle.script_text.specs.Replies.{IsReplyText}
use Rattle.named_model.specs.Model.{NamedTree}
use Rattle.served_models.specs.Served.{IsAsked, IsProblemOf}
use Rattle.decision_reports.specs.Texts.{AreTexts}
use Rattle.crew_run.specs.declared.answer.CrewAnswer.{CrewAnswer}
use Rattle.crew_run.specs.declared.answer.CrewAnswer.TheVariants.{Ended, Spent, Full}
use Rattle.crew_run.specs.Crew.{IsCrewAnswer}

-- the line above what is told of a command: its model's name, and its number
abbrev pub heading : List ℕ → ℕ → List ℕ
heading name number = codes "== " ++ name ++ codes " " ++ decimal number ++ codes "\n"

-- each worker has spent the budget; or as many scenarios were met as a journal may tell of
abbrev pub spent_line : ℕ → List ℕ
spent_line budget = codes "spent " ++ decimal budget ++ codes "\n"

abbrev pub full_line : List ℕ
full_line = codes "full 1000000\n"

-- the lines that tell the answer of a crew with this budget: those of a list that ends, or one line
abbrev pub IsAnswerText : Bounded → ℕ → CrewAnswer → List ℕ → Type 0
IsAnswerText p budget (Ended scenarios proof) text = IsReplyText p (listed scenarios.items) text
IsAnswerText p budget (Spent journal) text = text ≡ spent_line budget
IsAnswerText p budget (Full journal) text = text ≡ full_line

-- the text tells what a crew of so many workers with this budget answers of a problem, over a translation of it, below the line of
-- the problem's command
pub record IsBlock (workers budget : ℕ) (name : List ℕ) (number : ℕ) (p : Bounded) (text : List ℕ) : Type 0 where
  pub translation : Translated
  pub made : IsTranslation translation
  pub problem : translation.problem ≡ p
  pub answer : CrewAnswer
  pub answered : IsCrewAnswer translation workers budget 1000000 answer
  pub lines : List ℕ
  pub told : IsAnswerText p budget answer lines
  pub text_is : text ≡ heading name number ++ lines

-- what is told of a model's command of this number
abbrev pub IsBlockOn : ℕ → ℕ → List ℕ → NamedTree → ℕ → List ℕ → Type 0
IsBlockOn workers budget name m number text = (p : Bounded) × IsProblemOf m number p × IsBlock workers budget name number p text

-- what is told of the model at this place: of just the commands on which sessions are, each once, in rising order of their numbers
pub record AreBlocksOn (workers budget : ℕ) (sessions : List SessionEntry) (place : ℕ) (entry : ModelEntry) (m : NamedTree) (text : List ℕ) : Type 0 where
  pub numbers : List ℕ
  pub asked : (n : ℕ) → Contains numbers n ↔ IsAsked sessions place n
  pub rising : AllPairs (λ a b. a < b) numbers
  pub blocks : AreTexts (IsBlockOn workers budget entry.name m) numbers text

-- the models from this place on, each under its entry, have their texts, and the text is all of them in order
abbrev pub AreTextsFrom : {X : Type 0} → (ℕ → ModelEntry → X → List ℕ → Type 0) → ℕ → List ModelEntry → List X → List ℕ → Type 0
AreTextsFrom IsText place [] [] text = text ≡ []
AreTextsFrom IsText place [] (x ∷ models) text = ⊥
AreTextsFrom IsText place (entry ∷ entries) [] text = ⊥
AreTextsFrom IsText place (entry ∷ entries) (x ∷ models) text =
    (first : List ℕ) × (rest : List ℕ) × IsText place entry x first × AreTextsFrom IsText (place + 1) entries models rest × (text ≡ first ++ rest)

-- the text tells what crews answer of the commands on which the sessions are, one model after the other, and is no longer than an
-- output may be
abbrev pub AreCrewTexts : ℕ → ℕ → List SessionEntry → List ModelEntry → List NamedTree → List ℕ → Type 0
AreCrewTexts workers budget sessions entries models text = AreTextsFrom (AreBlocksOn workers budget sessions) 0 entries models text × (length text ≤ most_output)

-- ---- what a text without `spent` and `full` lists

-- a line of the text, but for its first
abbrev pub HasLine : List ℕ → List ℕ → Type 0
HasLine text line = (before : List ℕ) × (behind : List ℕ) × (text ≡ before ++ codes "\n" ++ line ++ behind)

-- no line tells of a spent budget, or of a full journal
abbrev pub TellsEnds : ℕ → List ℕ → Type 0
TellsEnds budget text = (¬ HasLine text (spent_line budget)) × (¬ HasLine text full_line)

-- the lines of a list that ends: the scenarios are those that are due at the empty floor, each once, the earlier ones first
pub record ListsAllDue (p : Bounded) (lines : List ℕ) : Type 0 where
  pub scenarios : List (List ℕ)
  pub exactly : (x : List ℕ) → Contains scenarios x ↔ IsDue p [] x
  pub sorted : AllPairs IsEarlier scenarios
  pub lines_are : IsReplyText p (listed scenarios) lines

-- such lines stand in the text, below this line
abbrev pub TellsAllDue : Bounded → List ℕ → List ℕ → Type 0
TellsAllDue p line text = (before : List ℕ) × (lines : List ℕ) × (behind : List ℕ) × ListsAllDue p lines × (text ≡ before ++ line ++ lines ++ behind)
