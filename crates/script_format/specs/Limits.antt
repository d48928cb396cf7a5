-- What the commands of a script may ask for.
use Rattle.std.specs.Prelude.{◌≤◌, ◌+◌, ℕ, List, [], ◌∷◌}
use Rattle.session_words.specs.declared.steps.Step.TheVariants.{Budget}
use Rattle.session_words.specs.declared.commands.Command.{Command}
use Rattle.session_words.specs.declared.commands.Command.TheVariants.{Step, All}
use Rattle.script_format.specs.declared.entries.SessionEntry.{SessionEntry}
use Rattle.script_format.specs.Reading.{asks}

-- a budget is at most 100,000, and `all` asks for 1 to 1,000 scenarios
abbrev pub IsAllowed : Command → Type 0
IsAllowed (Step (Budget budget)) = budget ≤ 100000
IsAllowed (Step step) = Unit {0}
IsAllowed (All n) = (1 ≤ n) × (n ≤ 1000)

-- how many scenarios the commands ask for
abbrev pub asked_by : List Command → ℕ
asked_by [] = 0
asked_by (command ∷ commands) = asks command + asked_by commands

-- how many scenarios the sessions ask for
abbrev pub asked_in : List SessionEntry → ℕ
asked_in [] = 0
asked_in (session ∷ sessions) = asked_by session.commands + asked_in sessions
