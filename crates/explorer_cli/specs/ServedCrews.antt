-- What is told of commands that are served, by crews.
use Rattle.std.specs.Prelude.{◌≤◌, ℕ, List, length, All}
use Rattle.std.specs.Global.{Vec}
use Rattle.script_format.specs.declared.entries.ModelEntry.{ModelEntry}
use Rattle.script_text.specs.Limits.{most_output}
use Rattle.served_models.specs.declared.commands.ServedCommand.{ServedCommand}
use Rattle.decision_reports.specs.Texts.{AreTexts}
use Rattle.explorer_run.specs.Served.{IsServable}
use Rattle.explorer_cli.specs.CrewTexts.{AreTextsFrom, IsBlock}

-- each of the commands has a problem that can be translated
abbrev pub AreServable : Vec ServedCommand → Type 0
AreServable made = All (λ (c : ServedCommand). IsServable c.problem) made.items

-- what is told of a command that is served, and of all those of a model
abbrev pub IsServedBlock : ℕ → ℕ → List ℕ → ServedCommand → List ℕ → Type 0
IsServedBlock workers budget name c text = IsBlock workers budget name c.number c.problem text

abbrev pub AreServedBlocks : ℕ → ℕ → ℕ → ModelEntry → Vec ServedCommand → List ℕ → Type 0
AreServedBlocks workers budget place entry made text = AreTexts (IsServedBlock workers budget entry.name) made.items text

-- what is told of all models
abbrev pub AreServedTexts : ℕ → ℕ → List ModelEntry → List (Vec ServedCommand) → List ℕ → Type 0
AreServedTexts workers budget entries models text = AreTextsFrom (AreServedBlocks workers budget) 0 entries models text × (length text ≤ most_output)
