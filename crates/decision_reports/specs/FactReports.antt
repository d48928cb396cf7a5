-- How it is told which facts can't all be true under the commands of a script's models.
use Rattle.std.specs.Prelude.{◌≡◌, ◌≤◌, ◌++◌, ℕ, List, Option, Some, None, length, codes, decimal}
use Rattle.std.specs.List.{flat_map}
use Rattle.alloy_syntax.specs.declared.tree.CommandKind.TheVariants.{Run}
use Rattle.decision_reports.specs.declared.needed_facts.needed.FactSet.{FactSet}
use Rattle.decision_reports.specs.declared.needed_facts.needed.FactSet.TheVariants.{Satisfiable, Needs, Spent}
use Rattle.decision_reports.specs.FactSets.{IsFactSet}
use Rattle.script_format.specs.declared.entries.ModelEntry.{ModelEntry}
use Rattle.script_text.specs.Limits.{most_output}
use Rattle.named_model.specs.Model.{NamedTree}
use Rattle.named_model.specs.Numbered.{name_of_fact}
use Rattle.model_texts.specs.Texts.ModelText.{SaysModel}
use Rattle.served_models.specs.Served.{model_line}
use Rattle.decision_reports.specs.declared.assertions.Report.{Report}
use Rattle.decision_reports.specs.declared.assertions.Report.TheVariants as report
use Rattle.decision_reports.specs.Taken.{numbers_of, CanBeRun, IsFirstRefusedFor}
use Rattle.decision_reports.specs.Texts.{AreTexts}
use Rattle.decision_reports.specs.Reports.{command_front}

-- what stands behind a fact's number: its name, if it has one
abbrev pub line_end : Option (List ℕ) → List ℕ
line_end None = codes "\n"
line_end (Some name) = codes " " ++ name ++ codes "\n"

-- the line of the fact of this number, where facts have these names
abbrev pub fact_line : List (Option (List ℕ)) → ℕ → List ℕ
fact_line names fact = codes "fact " ++ decimal fact ++ line_end (name_of_fact names fact)

-- how many these facts are, and their lines
abbrev pub core_text : List (Option (List ℕ)) → List ℕ → List ℕ
core_text names facts = codes "needs " ++ decimal (length facts) ++ codes "\n" ++ flat_map (fact_line names) facts

-- the lines that tell what is known of facts that have these names
abbrev pub set_text : List (Option (List ℕ)) → ℕ → FactSet → List ℕ
set_text names budget (Satisfiable scenario) = codes "satisfiable\n"
set_text names budget (Needs core scenarios) = core_text names core.facts.items
set_text names budget (Spent tried) = codes "spent " ++ decimal budget ++ codes "\n"

-- a command can be run, and the text tells what is known of the facts under it, where each search has this budget: all can be true,
-- or these can't, and all of these are needed for that, or the budget was spent
pub record IsFactSetOn (budget : ℕ) (name : List ℕ) (m : NamedTree) (number : ℕ) (text : List ℕ) : Type 0 where
  pub runs : CanBeRun m number
  pub set : FactSet
  pub known : IsFactSet m number budget set
  pub told : text ≡ command_front name number ++ set_text m.fact_names budget set

-- what is known of them under each `run` command of the model that the entry says, in rising order
abbrev pub AreFactSetsOn : ℕ → ModelEntry → List ℕ → Type 0
AreFactSetsOn budget entry text = (m : NamedTree) × SaysModel entry.text m × AreTexts (IsFactSetOn budget entry.name m) (numbers_of Run m) text

-- and of each model, in order, no longer than an output may be
abbrev pub AreFactSetsOf : ℕ → List ModelEntry → List ℕ → Type 0
AreFactSetsOf budget entries text = AreTexts (AreFactSetsOn budget) entries text × (length text ≤ most_output)

-- what is told of facts: what is known of them under each command, or the line that refuses the first model that can't be used
abbrev pub IsFactReport : ℕ → List ModelEntry → Report → Type 0
IsFactReport budget entries (report.Told text) = AreFactSetsOf budget entries text.items
IsFactReport budget entries (report.Refused line) = (name : List ℕ) × (words : List ℕ) × IsFirstRefusedFor Run entries name words × (line.items ≡ model_line name words)
