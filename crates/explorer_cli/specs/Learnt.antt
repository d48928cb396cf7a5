-- How many steps the searches of an answer may learn.
use Rattle.std.specs.Prelude.{◌≡◌, ◌≤◌, ◌+◌, ◌⊎◌, ℕ, List, [], ◌∷◌}
use Rattle.command_words.specs.declared.reading.Command.{Command}
use Rattle.command_words.specs.declared.reading.Command.TheVariants.{Run, Distinct, Check, Assert, Facts, Load, Crew}
use Rattle.command_words.specs.Words.{default_budget}
use Rattle.script_format.specs.declared.entries.Script.{Script}
use Rattle.script_format.specs.declared.entries.SessionEntry.{SessionEntry}
use Rattle.script_format.specs.Script.{IsScript}
use Rattle.script_format.specs.Generated.{generated}
use Rattle.session_turns.specs.Allowed.{allowed}

-- what the commands of a script's sessions may take together, those of each session from this budget
abbrev pub allowed_of : ℕ → List SessionEntry → ℕ
allowed_of budget [] = 0
allowed_of budget (x ∷ sessions) = allowed budget x.commands + allowed_of budget sessions

-- a count was raised by no more than what the sessions of the script may take, where the bytes are one, and else it wasn't raised
abbrev pub KeepsToBudget : ℕ → List ℕ → ℕ → ℕ → Type 0
KeepsToBudget budget bytes old new = (new ≡ old) ⊎ ((s : Script) × IsScript bytes s × (new ≤ old + allowed_of budget s.sessions))

-- what the searches of a command's answer to these bytes may raise a count to; of `assert`, `facts` and `crew` nothing is said
abbrev pub MayLearn : Command → List ℕ → ℕ → ℕ → Type 0
MayLearn (Run workers budget) bytes old new = KeepsToBudget budget bytes old new
MayLearn (Distinct workers budget) bytes old new = KeepsToBudget budget bytes old new
MayLearn Check bytes old new = new ≡ old
MayLearn (Assert budget) bytes old new = Unit {0}
MayLearn (Facts budget) bytes old new = Unit {0}
MayLearn (Load number workers) bytes old new = KeepsToBudget default_budget (generated number) old new
MayLearn (Crew workers budget) bytes old new = Unit {0}

-- the same where the source that had the bytes may not tell them
abbrev pub HasLearnt : Command → Type 0 → List ℕ → ℕ → ℕ → Type 0
HasLearnt command tells had old new = (tells → MayLearn command had old new) × ((bytes : List ℕ) × MayLearn command bytes old new)
