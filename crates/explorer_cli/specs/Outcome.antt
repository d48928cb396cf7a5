-- What the program answers: its words, its texts and its statuses.
use Rattle.std.specs.Prelude.{◌≡◌, ◌≤◌, ◌⊎◌, ℕ, List, codes}
use Rattle.outside_io.specs.declared.status.Status.{Status}
use Rattle.outside_io.specs.declared.status.Status.TheVariants.{Done, NotAccepted, InputRefused, ModelRefused, SourceFailed, SinkFailed, NoMemory}
use Rattle.command_words.specs.declared.reading.Command.{Command}
use Rattle.alloy_syntax.specs.declared.tree.CommandKind.TheVariants as kind
use Rattle.command_words.specs.declared.reading.Command.TheVariants.{Run, Distinct, Check, Assert, Facts, Load, Crew}
use Rattle.command_words.specs.Words.{default_budget}
use Rattle.proof_command.specs.Answer as check
use Rattle.script_format.specs.declared.entries.Script.{Script}
use Rattle.script_format.specs.declared.entries.SessionEntry.{SessionEntry}
use Rattle.script_format.specs.declared.fault.ScriptFault.{ScriptFault}
use Rattle.script_format.specs.Script.{IsScript, HasFault}
use Rattle.script_format.specs.Generated.{generated}
use Rattle.script_text.specs.Faults.{script_line, fault_words}
use Rattle.named_model.specs.Model.{NamedTree}
use Rattle.served_models.specs.declared.purposes.Purpose.{Purpose}
use Rattle.served_models.specs.declared.purposes.Purpose.TheVariants.{Lists, Classes}
use Rattle.served_models.specs.Served.{AreUsable, IsFirstRefused, model_line}
use Rattle.decision_reports.specs.Taken.{IsFirstRefusedFor}
use Rattle.decision_reports.specs.Reports.{AreAssertionsOf}
use Rattle.decision_reports.specs.FactReports.{AreFactSetsOf}
use Rattle.explorer_cli.specs.Runs.{AreRunsOf}
use Rattle.explorer_cli.specs.Classes.{AreClassedRunsOf}
use Rattle.explorer_cli.specs.Load.{IsSummaryOf}
use Rattle.explorer_cli.specs.CrewTexts.{AreCrewTexts}

-- the line that names refused words
abbrev pub words_line : List ℕ
words_line = codes "fault words\n"

-- ---- what a command answers

-- runs of the sessions on these models, in order: their lists are told whole, or by classes at the bottom
abbrev pub AreToldRuns : Purpose → ℕ → List SessionEntry → List NamedTree → List ℕ → Type 0
AreToldRuns Lists budget sessions models text = AreRunsOf budget sessions models text
AreToldRuns Classes budget sessions models text = AreClassedRunsOf budget sessions models text

-- runs of the script's sessions on its models, which can all be used for this, from this budget
abbrev pub WritesRuns : Purpose → ℕ → Script → List ℕ → Type 0
WritesRuns purpose budget s text = (models : List NamedTree) × AreUsable purpose s.sessions 0 s.models models × AreToldRuns purpose budget s.sessions models text

-- the summary of runs of the script's sessions on its models, which can all be used for lists
abbrev pub WritesSummary : ℕ → Script → List ℕ → Type 0
WritesSummary budget s text = (models : List NamedTree) × AreUsable Lists s.sessions 0 s.models models × IsSummaryOf budget s.sessions models text

-- what crews of so many workers with this budget find of the commands on which the script's sessions are, on its models, which can
-- all be used for lists
abbrev pub WritesCrews : ℕ → ℕ → Script → List ℕ → Type 0
WritesCrews workers budget s text = (models : List NamedTree) × AreUsable Lists s.sessions 0 s.models models × AreCrewTexts workers budget s.sessions s.models models text

-- the text that a command writes for a script: of `run` and `distinct` that of such runs, from the budget of the words; of `assert`
-- the decisions on each `check` command of its models, each with that budget; of `facts` what is known of the facts under each
-- `run` command, where each search has that budget; of `load` the summary of such runs as `run` has by itself; of `crew` what
-- crews find of each command on which sessions are; `check` reads no script
abbrev pub Writes : Command → Script → List ℕ → Type 0
Writes (Run workers budget) s text = WritesRuns Lists budget s text
Writes (Distinct workers budget) s text = WritesRuns Classes budget s text
Writes Check s text = ⊥
Writes (Assert budget) s text = AreAssertionsOf budget s.models text
Writes (Facts budget) s text = AreFactSetsOf budget s.models text
Writes (Load number workers) s text = WritesSummary default_budget s text
Writes (Crew workers budget) s text = WritesCrews workers budget s text

-- the first model of a script that a command can't use has this name, and these words tell why: `run`, `distinct`, `load` and
-- `crew` use the commands on which sessions are, `assert` each `check` command, and `facts` each `run` command
abbrev pub IsFirstUnusable : Command → Script → List ℕ → List ℕ → Type 0
IsFirstUnusable (Run workers budget) s name words = IsFirstRefused Lists s.sessions s.models name words
IsFirstUnusable (Distinct workers budget) s name words = IsFirstRefused Classes s.sessions s.models name words
IsFirstUnusable Check s name words = ⊥
IsFirstUnusable (Assert budget) s name words = IsFirstRefusedFor kind.Check s.models name words
IsFirstUnusable (Facts budget) s name words = IsFirstRefusedFor kind.Run s.models name words
IsFirstUnusable (Load number workers) s name words = IsFirstRefused Lists s.sessions s.models name words
IsFirstUnusable (Crew workers budget) s name words = IsFirstRefused Lists s.sessions s.models name words

-- the bytes are no script: the input is refused, and the text is the line that tells their fault
abbrev pub IsFaultAnswer : List ℕ → Status → List ℕ → Type 0
IsFaultAnswer bytes status text = (f : ScriptFault) × HasFault bytes f × (status ≡ InputRefused) × (text ≡ script_line (fault_words f))

-- a model can't be used: it is refused, and the text is the line that refuses the first of these, which this says
abbrev pub IsModelAnswer : (List ℕ → List ℕ → Type 0) → Status → List ℕ → Type 0
IsModelAnswer IsFirst status text = (status ≡ ModelRefused) × ((name : List ℕ) × (words : List ℕ) × IsFirst name words × (text ≡ model_line name words))

-- a status and a text answer a script: its first model that can't be used is told, or all is done, and the text is what the command
-- writes
abbrev pub IsAnswerToScript : Command → Script → Status → List ℕ → Type 0
IsAnswerToScript command s status text = IsModelAnswer (IsFirstUnusable command s) status text ⊎ ((status ≡ Done) × Writes command s text)

-- a status and a text answer bytes that are read as a script
abbrev pub IsAnswerToText : Command → List ℕ → Status → List ℕ → Type 0
IsAnswerToText command bytes status text = IsFaultAnswer bytes status text ⊎ ((s : Script) × IsScript bytes s × IsAnswerToScript command s status text)

-- a status and a text answer the bytes of the input: `check` reads a proof text, the others a script; but `load` makes its script,
-- whatever the input is
abbrev pub IsAnswerTo : Command → List ℕ → Status → List ℕ → Type 0
IsAnswerTo Check bytes status text = check.IsAnswerTo bytes status text
IsAnswerTo (Load number workers) bytes status text = IsAnswerToText (Load number workers) (generated number) status text
IsAnswerTo command bytes status text = IsAnswerToText command bytes status text

-- how many bytes a command reads at most: one more than a proof text, or a script, may have; and `load` reads none
abbrev pub limit_of : Command → ℕ
limit_of Check = 268435457
limit_of (Load number workers) = 0
limit_of command = 1048577

-- ---- statuses

-- the source failed, the sink failed, or memory was wanting
abbrev pub HasFailed : Status → Type 0
HasFailed status = (status ≡ SourceFailed) ⊎ (status ≡ SinkFailed) ⊎ (status ≡ NoMemory)

-- the statuses of a command's answers: of `check` accepted, not accepted, no proof text; of the others done, no script, a refused model
abbrev pub IsStatusOf : Command → Status → Type 0
IsStatusOf Check status = (status ≡ Done) ⊎ (status ≡ NotAccepted) ⊎ (status ≡ InputRefused)
IsStatusOf command status = (status ≡ Done) ⊎ (status ≡ InputRefused) ⊎ (status ≡ ModelRefused)

-- ---- what the code requires

-- the numbers are such as the words can say
abbrev pub HasNumbersInRange : Command → Type 0
HasNumbersInRange (Run workers budget) = (1 ≤ workers) × (workers ≤ 16) × (budget ≤ 100000)
HasNumbersInRange (Distinct workers budget) = (1 ≤ workers) × (workers ≤ 16) × (budget ≤ 100000)
HasNumbersInRange Check = Unit {0}
HasNumbersInRange (Assert budget) = budget ≤ 100000
HasNumbersInRange (Facts budget) = budget ≤ 100000
HasNumbersInRange (Load number workers) = (1 ≤ number) × (number ≤ 16) × (1 ≤ workers) × (workers ≤ 16)
HasNumbersInRange (Crew workers budget) = (1 ≤ workers) × (workers ≤ 16) × (budget ≤ 100000)

-- ---- what is answered where sessions are run

-- a status and a text answer a script
abbrev pub IsAnswerOfRuns : Purpose → ℕ → Script → Status → List ℕ → Type 0
IsAnswerOfRuns purpose budget s status text = IsModelAnswer (IsFirstRefused purpose s.sessions s.models) status text ⊎ ((status ≡ Done) × WritesRuns purpose budget s text)

-- they answer the bytes of the input
abbrev pub IsRunsAnswer : Purpose → ℕ → List ℕ → Status → List ℕ → Type 0
IsRunsAnswer purpose budget bytes status text = IsFaultAnswer bytes status text ⊎ ((s : Script) × IsScript bytes s × IsAnswerOfRuns purpose budget s status text)
