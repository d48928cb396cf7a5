-- The keys under which the problems of commands are served, and what is asked of sessions.
use Rattle.std.specs.Prelude.{◌≡◌, ◌≤◌, ◌<◌, ◌+◌, ◌^◌, ◌==◌, ℕ, List, All, length, map, flat_map, take, Option, None, Some, slice_get, Result, MatchResult}
use Rattle.std.specs.List.{AllZip, position_or_len}
use Rattle.std.specs.Global.{Vec}
use Rattle.rel_formula.specs.Bounds.{Bounded}
use Rattle.session_rules.specs.declared.script.SessionScript.{SessionScript}
use Rattle.proof_command.specs.declared.answer.Answer.{Answer}
use Rattle.script_format.specs.declared.entries.Script.{Script}
use Rattle.script_format.specs.declared.entries.SessionEntry.{SessionEntry}
use Rattle.script_format.specs.Reading.{most_commands, most_asked}
use Rattle.script_format.specs.Script.{IsScript}
use Rattle.script_format.specs.Limits.{IsAllowed, asked_by, asked_in}
use Rattle.served_models.specs.declared.commands.ServedCommand.{ServedCommand}
use Rattle.explorer_run.specs.Served.{AreServed}
use Rattle.explorer_cli.specs.Runs.{IsServed}
use Rattle.explorer_cli.specs.Outcome.{IsFaultAnswer}
use Rattle.explorer_cli.specs.declared.sessions.Ran.{Ran}

-- the problems of a model's commands
abbrev pub problems_in : Vec ServedCommand → List Bounded
problems_in made = map (λ (c : ServedCommand). c.problem) made.items

-- those of all models, one model after the other: the place of a problem is its key
abbrev pub problems_of : List (Vec ServedCommand) → List Bounded
problems_of models = flat_map problems_in models

-- the place of the command of this number
abbrev pub place_of : ℕ → List ServedCommand → ℕ
place_of number made = position_or_len (λ (c : ServedCommand). c.number == number) made

abbrev pub place_in : ℕ → Option (Vec ServedCommand) → ℕ
place_in number None = 0
place_in number (Some made) = place_of number made.items

-- the key of the command of this number, of the model at this place: those of earlier models come first
abbrev pub key_of : List (Vec ServedCommand) → ℕ → ℕ → ℕ
key_of models model number = length (problems_of (take model models)) + place_in number (slice_get models model)

-- the session as it is served: under its name, on the key of its command, with this budget
pub record IsScriptOf (models : List (Vec ServedCommand)) (budget : ℕ) (x : SessionEntry) (y : SessionScript) : Type 0 where
  pub name : y.name ≡ x.name
  pub key : y.key ≡ key_of models x.model x.number
  pub budget_is : y.budget ≡ budget
  pub commands : y.commands ≡ x.commands

-- the sessions were served on the problems of the models' commands
pub record WereServed (models : List (Vec ServedCommand)) (budget : ℕ) (sessions : List SessionEntry) (ran : Ran) : Type 0 where
  pub scripts : AllZip (IsScriptOf models budget) sessions ran.scripts.items
  pub served : AreServed (problems_of models) ran.scripts.items ran.served

-- ---- what the code requires

-- a session that can be served: on a command that has a problem, within the limits of scripts
pub record CanBeServed (models : List (Vec ServedCommand)) (x : SessionEntry) : Type 0 where
  pub on : IsServed models x
  pub allowed : All IsAllowed x.commands
  pub asked : asked_by x.commands ≤ most_asked
  pub few : length x.commands < 2 ^ 32

-- the script keeps to the limits
pub record KeepsToLimits (s : Script) : Type 0 where
  pub models : length s.models ≤ 16
  pub sessions : length s.sessions ≤ 64
  pub named : All (λ x. x.model < length s.models) s.sessions
  pub small : All (λ m. length m.text ≤ 1048576) s.models
  pub allowed : All (λ x. All IsAllowed x.commands) s.sessions
  pub asked : asked_in s.sessions ≤ most_asked
  pub commands : All (λ x. length x.commands ≤ most_commands) s.sessions

-- ---- what is read

-- the script that the bytes are, which keeps to the limits, or the answer that tells their fault
abbrev pub IsScriptOrFault : List ℕ → Result Script Answer → Type 0
IsScriptOrFault bytes found = MatchResult found (λ (s : Script). IsScript bytes s × KeepsToLimits s) (λ (a : Answer). IsFaultAnswer bytes a.status a.text.items)
