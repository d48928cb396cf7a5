-- Reading a script line by line: the faults of a line, and what a line without a fault adds.
use Rattle.std.specs.Prelude.{ℕ, zero, suc, ◌+◌, List, [], ◌∷◌, ◌++◌, map, length, codes, Bool, true, false, ◌||◌, not, nat_lt, if◌then◌else◌, Option, Some, None, bytes_eq}
use Rattle.session_words.specs.declared.steps.Step.{Step}
use Rattle.session_words.specs.declared.steps.Step.TheVariants as step
use Rattle.session_words.specs.declared.commands.Command.{Command}
use Rattle.session_words.specs.declared.commands.Command.TheVariants as command
use Rattle.script_format.specs.declared.entries.ModelEntry.{ModelEntry}
use Rattle.script_format.specs.declared.entries.SessionEntry.{SessionEntry}
use Rattle.script_format.specs.declared.fault.Kind.{Kind}
use Rattle.script_format.specs.declared.fault.Kind.TheVariants as kind
use Rattle.script_format.specs.declared.line.Line.{Line}
use Rattle.script_format.specs.declared.line.Line.TheVariants as line
use Rattle.script_format.specs.declared.line.Open.{Open}
use Rattle.script_format.specs.declared.line.Open.TheVariants as open_
use Rattle.script_format.specs.Keys.{key_of, with_key, keys_of}

-- what was read so far: the models and the sessions, what the last directive began, and how many command lines there
-- were and how many scenarios they ask for
pub record Reading : Type 0 where
  pub models : List ModelEntry
  pub sessions : List SessionEntry
  pub began : Open
  pub commands : ℕ
  pub asked : ℕ

-- before the first line
abbrev pub Start : Reading
Start = record { models = []; sessions = []; began = open_.Nothing; commands = 0; asked = 0 }

-- the place of a name among names that begin at place n
abbrev pub place_from : ℕ → List ℕ → List (List ℕ) → Option ℕ
place_from n name [] = None
place_from n name (first ∷ others) = if bytes_eq first name then Some n else place_from (n + 1) name others

-- the place of the model, or of the session, with this name
abbrev pub model_named : Reading → List ℕ → Option ℕ
model_named r name = place_from 0 name (map (λ m. m.name) r.models)

abbrev pub session_named : Reading → List ℕ → Option ℕ
session_named r name = place_from 0 name (map (λ s. s.name) r.sessions)

abbrev pub is_there : Option ℕ → Bool
is_there None = false
is_there (Some n) = true

abbrev pub or_zero : Option ℕ → ℕ
or_zero None = 0
or_zero (Some n) = n

-- how many scenarios a command asks for
abbrev pub asks_step : Step → ℕ
asks_step step.Next = 1
asks_step step.Offers = 0
asks_step (step.Augment relation tuple) = 0
asks_step step.Back = 0
asks_step (step.Budget b) = 0
asks_step step.Proof = 0

abbrev pub asks : Command → ℕ
asks (command.Step s) = asks_step s
asks (command.All n) = n

-- a session without commands so far
abbrev pub new_session : Reading → List ℕ → List ℕ → Option ℕ → SessionEntry
new_session r name model number = record { name = name; model = or_zero (model_named r model); number = or_zero number; commands = [] }

-- ---- the faults of a line

abbrev pub is_stray : Line → Bool
is_stray line.Stray = true
is_stray _ = false

abbrev pub is_unknown : Line → Bool
is_unknown line.Unknown = true
is_unknown _ = false

abbrev pub has_bad_number : Line → Bool
has_bad_number line.BadNumber = true
has_bad_number (line.Session name model number) = not (is_there number)
has_bad_number _ = false

abbrev pub has_unknown_model : Reading → Line → Bool
has_unknown_model r (line.Session name model number) = not (is_there (model_named r model))
has_unknown_model r _ = false

abbrev pub has_unknown_session : Reading → Line → Bool
has_unknown_session r (line.More name) = not (is_there (session_named r name))
has_unknown_session r _ = false

abbrev pub names_twice : Reading → Line → Bool
names_twice r (line.Model name) = is_there (model_named r name)
names_twice r (line.Session name model number) = is_there (session_named r name)
names_twice r _ = false

-- a script has at most so many command lines, and these ask for at most so many scenarios
abbrev pub most_commands : ℕ
most_commands = 4096

abbrev pub most_asked : ℕ
most_asked = 20000

-- with this line there are more than 16 models, 64 sessions, 16 pairs of a model and a command, or too many command lines or
-- scenarios asked for
abbrev pub is_too_many : Reading → Line → Bool
is_too_many r (line.Model name) = nat_lt 16 (length r.models + 1)
is_too_many r (line.Session name model number) =
    nat_lt 64 (length r.sessions + 1) || nat_lt 16 (length (with_key (keys_of r.sessions) (key_of (new_session r name model number))))
is_too_many r (line.Command session command) = nat_lt most_commands (r.commands + 1) || nat_lt most_asked (r.asked + asks command)
is_too_many r _ = false

-- a kind of fault, and whether a line has it
pub record Judged : Type 0 where
  pub fault : Kind
  pub has : Bool

-- the first fault that a line has
abbrev pub first_of : List Judged → Option Kind
first_of [] = None
first_of (x ∷ others) = if x.has then Some x.fault else first_of others

-- the faults are told in this order
unfoldable pub fault_of : Reading → Line → Option Kind
fault_of r l = first_of
    (record { fault = kind.StrayText; has = is_stray l }
    ∷ record { fault = kind.BadDirective; has = is_unknown l }
    ∷ record { fault = kind.BadNumber; has = has_bad_number l }
    ∷ record { fault = kind.UnknownModel; has = has_unknown_model r l }
    ∷ record { fault = kind.UnknownSession; has = has_unknown_session r l }
    ∷ record { fault = kind.Twice; has = names_twice r l }
    ∷ record { fault = kind.TooMany; has = is_too_many r l }
    ∷ [])

-- ---- what a line adds

-- the list with a change at a place
abbrev pub changed : {X : Type 0} → (X → X) → ℕ → List X → List X
changed f n [] = []
changed f zero (x ∷ others) = f x ∷ others
changed f (suc n) (x ∷ others) = x ∷ changed f n others

-- a line more of a model's text
abbrev pub with_text : List ℕ → ModelEntry → ModelEntry
with_text text m = record m { text = m.text ++ text ++ codes "\n" }

-- a command more of a session
abbrev pub with_command : Command → SessionEntry → SessionEntry
with_command c s = record s { commands = s.commands ++ c ∷ [] }

-- what was read with this line, which has no fault
unfoldable pub after : Reading → List ℕ → Line → Reading
after r text (line.Text k) = record r { models = changed (with_text text) k r.models }
after r text (line.Model name) = record r { models = r.models ++ record { name = name; text = [] } ∷ []; began = open_.Model (length r.models) }
after r text (line.Session name model number) = record r { sessions = r.sessions ++ new_session r name model number ∷ []; began = open_.Session (length r.sessions) }
after r text (line.More name) = record r { began = open_.Session (or_zero (session_named r name)) }
after r text (line.Command k command) = record r { sessions = changed (with_command command) k r.sessions; commands = r.commands + 1; asked = r.asked + asks command }
after r text _ = r
