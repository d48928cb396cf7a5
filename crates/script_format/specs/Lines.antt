-- What a line says where it stands.
use Rattle.std.specs.Prelude.{ℕ, List, [], ◌∷◌, codes, ◌&&◌, if◌then◌else◌, Option, Some, None, bytes_eq}
use Rattle.session_words.specs.declared.atom_names.AtomName.{AtomName}
use Rattle.session_words.specs.declared.steps.Step.{Step}
use Rattle.session_words.specs.declared.steps.Step.TheVariants as step
use Rattle.session_words.specs.declared.commands.Command.TheVariants as command
use Rattle.script_format.specs.declared.line.Line.{Line}
use Rattle.script_format.specs.declared.line.Line.TheVariants as line
use Rattle.script_format.specs.declared.line.Open.{Open}
use Rattle.script_format.specs.declared.line.Open.TheVariants as open_
use Rattle.script_format.specs.Words.{words_in, is_directive, is_idle, is_name, number_within}
use Rattle.script_format.specs.Tuples.{is_relation_name, tuple_in}

-- `== model NAME`, `== more NAME`
abbrev pub directive_of_three : List ℕ → List ℕ → List ℕ → Line
directive_of_three mark kind name =
    if bytes_eq mark (codes "==") && is_name name
    then (if bytes_eq kind (codes "model") then line.Model name else (if bytes_eq kind (codes "more") then line.More name else line.Unknown))
    else line.Unknown

-- `== session NAME MODEL NUMBER`
abbrev pub directive_of_five : List ℕ → List ℕ → List ℕ → List ℕ → List ℕ → Line
directive_of_five mark kind name model number =
    if bytes_eq mark (codes "==") && bytes_eq kind (codes "session") && is_name name && is_name model
    then line.Session name model (number_within 1 1000 number)
    else line.Unknown

-- what the words of a directive say
abbrev pub directive_of : List (List ℕ) → Line
directive_of [] = line.Unknown
directive_of (a ∷ []) = line.Unknown
directive_of (a ∷ b ∷ []) = line.Unknown
directive_of (a ∷ b ∷ c ∷ []) = directive_of_three a b c
directive_of (a ∷ b ∷ c ∷ d ∷ []) = line.Unknown
directive_of (a ∷ b ∷ c ∷ d ∷ e ∷ []) = directive_of_five a b c d e
directive_of (a ∷ b ∷ c ∷ d ∷ e ∷ f ∷ others) = line.Unknown

-- a step of a session
abbrev pub step_line : ℕ → Step → Line
step_line session step = line.Command session (command.Step step)

-- `next`, `offers`, `back`, `proof`
abbrev pub command_of_one : ℕ → List ℕ → Line
command_of_one session word =
    if bytes_eq word (codes "next") then step_line session step.Next
    else (if bytes_eq word (codes "offers") then step_line session step.Offers
    else (if bytes_eq word (codes "back") then step_line session step.Back
    else (if bytes_eq word (codes "proof") then step_line session step.Proof
    else line.Unknown)))

abbrev pub all_line : ℕ → Option ℕ → Line
all_line session None = line.BadNumber
all_line session (Some n) = line.Command session (command.All n)

abbrev pub budget_line : ℕ → Option ℕ → Line
budget_line session None = line.BadNumber
budget_line session (Some n) = step_line session (step.Budget n)

-- `all N`, `budget B`
abbrev pub command_of_two : ℕ → List ℕ → List ℕ → Line
command_of_two session word number =
    if bytes_eq word (codes "all") then all_line session (number_within 1 1000 number)
    else (if bytes_eq word (codes "budget") then budget_line session (number_within 0 100000 number)
    else line.Unknown)

abbrev pub augment_line : ℕ → List ℕ → Option (List AtomName) → Line
augment_line session relation None = line.Unknown
augment_line session relation (Some tuple) = step_line session (step.Augment relation tuple)

-- `augment RELATION TUPLE`
abbrev pub command_of_three : ℕ → List ℕ → List ℕ → List ℕ → Line
command_of_three session word relation tuple =
    if bytes_eq word (codes "augment") && is_relation_name relation then augment_line session relation (tuple_in tuple) else line.Unknown

-- what the words of a session's line say
abbrev pub command_of : ℕ → List (List ℕ) → Line
command_of session [] = line.Unknown
command_of session (a ∷ []) = command_of_one session a
command_of session (a ∷ b ∷ []) = command_of_two session a b
command_of session (a ∷ b ∷ c ∷ []) = command_of_three session a b c
command_of session (a ∷ b ∷ c ∷ d ∷ others) = line.Unknown

-- what a line says that is no directive: all lines below a model's directive are text
abbrev pub line_beside : Open → List ℕ → Line
line_beside open_.Nothing text = if is_idle text then line.Idle else line.Stray
line_beside (open_.Model k) text = line.Text k
line_beside (open_.Session k) text = if is_idle text then line.Idle else command_of k (words_in text)

-- what a line says, below what the last directive began
unfoldable pub line_of : Open → List ℕ → Line
line_of began text = if is_directive text then directive_of (words_in text) else line_beside began text
