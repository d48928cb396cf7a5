-- How it is told what is decided of the commands of a script's models.
use Rattle.std.specs.Prelude.{◌≡◌, ◌≤◌, ◌++◌, ℕ, List, [], Some, length, codes, decimal}
use Rattle.alloy_syntax.specs.declared.tree.CommandKind.TheVariants.{Check}
use Rattle.rel_formula.specs.Bounds.{Bounded}
use Rattle.translation_rules.specs.Translation.{Translated}
use Rattle.translation.specs.Kept.{IsTranslation}
use Rattle.decision_reports.specs.declared.decision.Decision.{Decision}
use Rattle.decision_reports.specs.declared.decision.Decision.TheVariants.{Holds, Fails, Spent}
use Rattle.decision_reports.specs.Assertions.{IsCounterexample}
use Rattle.decision_reports.specs.Decided.{IsDecision, IsSpent}
use Rattle.refutation_check.specs.Part.{Parted}
use Rattle.swap_symmetry.specs.Due.{IsDue}
use Rattle.lowering_rules.specs.Formula.{all_facts}
use Rattle.lowering_rules.specs.Problem.{command_at}
use Rattle.script_format.specs.declared.entries.ModelEntry.{ModelEntry}
use Rattle.script_text.specs.Limits.{most_output}
use Rattle.script_text.specs.Replies.{IsScenarioText}
use Rattle.named_model.specs.Model.{CommandTree, NamedTree}
use Rattle.model_texts.specs.Texts.ModelText.{SaysModel}
use Rattle.served_models.specs.Served.{IsProblemOf, model_line}
use Rattle.decision_reports.specs.declared.assertions.Report.{Report}
use Rattle.decision_reports.specs.declared.assertions.Report.TheVariants as report
use Rattle.decision_reports.specs.Taken.{numbers_of, IsFirstRefusedFor}
use Rattle.decision_reports.specs.Texts.{AreTexts}

-- what the lines on a command begin with
abbrev pub command_front : List ℕ → ℕ → List ℕ
command_front name number = codes "model " ++ name ++ codes " command " ++ decimal number ++ codes " "

-- the lines that tell a decision on an assertion, behind this front
abbrev pub IsDecisionText : Bounded → ℕ → List ℕ → Decision → List ℕ → Type 0
IsDecisionText p budget front (Holds proof) text = text ≡ front ++ codes "holds\n"
IsDecisionText p budget front (Fails scenario) text = (lines : List ℕ) × IsScenarioText p scenario lines × (text ≡ front ++ codes "fails\n" ++ lines)
IsDecisionText p budget front (Spent parts) text = text ≡ front ++ codes "spent " ++ decimal budget ++ codes "\n"

-- the text tells what is decided of a command's problem, with this budget, over a translation of it
pub record IsDecisionOn (budget : ℕ) (name : List ℕ) (m : NamedTree) (number : ℕ) (text : List ℕ) : Type 0 where
  pub translation : Translated
  pub made : IsTranslation translation
  pub problem : IsProblemOf m number translation.problem
  pub decision : Decision
  pub decided : IsDecision translation budget decision
  pub told : IsDecisionText translation.problem budget (command_front name number) decision text

-- the decisions on each `check` command of the model that the entry says, in rising order
abbrev pub AreDecisionsOn : ℕ → ModelEntry → List ℕ → Type 0
AreDecisionsOn budget entry text = (m : NamedTree) × SaysModel entry.text m × AreTexts (IsDecisionOn budget entry.name m) (numbers_of Check m) text

-- those on the models in order, no longer than an output may be
abbrev pub AreAssertionsOf : ℕ → List ModelEntry → List ℕ → Type 0
AreAssertionsOf budget entries text = AreTexts (AreDecisionsOn budget) entries text × (length text ≤ most_output)

-- what is told of assertions: the decisions, or the line that refuses the first model that can't be used
abbrev pub IsAssertionReport : ℕ → List ModelEntry → Report → Type 0
IsAssertionReport budget entries (report.Told text) = AreAssertionsOf budget entries text.items
IsAssertionReport budget entries (report.Refused line) = (name : List ℕ) × (words : List ℕ) × IsFirstRefusedFor Check entries name words × (line.items ≡ model_line name words)

-- ---- what the lines say

-- no scenario of the command's problem is one in which the constraints and the facts are true and what it checks is false
abbrev pub HasNoCounterexample : NamedTree → ℕ → Type 0
HasNoCounterexample m number =
    (p : Bounded) → IsProblemOf m number p → (c : CommandTree) → command_at m number ≡ Some c → (s : List ℕ) → ¬ IsCounterexample m c (all_facts m) p s

-- the lines are those of a counterexample of the command, which is minimal and settled
abbrev pub FailsIn : NamedTree → ℕ → List ℕ → Type 0
FailsIn m number lines =
    (p : Bounded) × IsProblemOf m number p × ((c : CommandTree) × (command_at m number ≡ Some c) × ((s : List ℕ) × IsCounterexample m c (all_facts m) p s × IsDue p [] s × IsScenarioText p s lines))

-- a search over a translation of the command's problem took the whole budget
abbrev pub WasSpent : ℕ → NamedTree → ℕ → Type 0
WasSpent budget m number = (t : Translated) × IsTranslation t × IsProblemOf m number t.problem × ((parts : List Parted) × IsSpent t budget parts)
