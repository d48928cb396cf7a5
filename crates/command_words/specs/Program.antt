-- What `clap` is told of the words, and what is read of its matches.
use Rattle.std.specs.Prelude.{◌≡◌, ◌≢◌, ◌⊎◌, ℕ, List, Option, Some, None, codes, pos, true, MatchOption}
use Rattle.clap.specs.Walk.{Row, Rule, Text, first_of, one_of}
use Rattle.clap.specs.Simple.{App, Shape, new_app, new_rule, new_shape, with_rule, with_subcommand}
use Rattle.clap.specs.declared.builder.value_parser.ValueParser.{ValueParser}
use Rattle.clap.specs.declared.builder.value_parser.ValueParser.TheVariants.{Signed}
use Rattle.command_words.specs.Words.{IsNumber, number_after, default_budget}
use Rattle.command_words.specs.declared.reading.Command.{Command}
use Rattle.command_words.specs.declared.reading.Command.TheVariants.{Run, Check, Distinct, Assert, Facts, Load, Crew}
use Rattle.command_words.specs.declared.reading.Options.{Options}

-- an option by its long name, with a number
abbrev pub number_option : Text → ValueParser → Rule
number_option name numbers = record (new_rule name) { long = Some name; parser = Some numbers }

abbrev pub workers : Rule
workers = number_option (codes "workers") (Signed (pos 1) (pos 16))

abbrev pub budget : Rule
budget = number_option (codes "budget") (Signed (pos 0) (pos 100000))

-- a command that knows both options
abbrev pub command_with_options : Text → App
command_with_options name = with_rule (with_rule (new_app name) workers) budget

-- an argument with no name, which goes by its place: a number, and one is needed
abbrev pub load_number : Rule
load_number = record (new_rule (codes "number")) { parser = Some (Signed (pos 1) (pos 16)); required = true }

-- the command that knows such a number and the option of the workers
abbrev pub load_command : App
load_command = with_rule (with_rule (new_app (codes "load")) load_number) workers

abbrev pub check_command : App
check_command = new_app (codes "check")

-- every word belongs to the program, a command is needed, and none asks for help
abbrev pub top_shape : Shape
top_shape = record (new_shape (codes "explore")) { no_binary_name = true; disable_help_flag = true; disable_help_subcommand = true; subcommand_required = true }

abbrev pub without_commands : App
without_commands = record (new_app (codes "explore")) { top = top_shape }

-- a program with a command more, which knows both options
abbrev pub with_command : Text → App → App
with_command name a = with_subcommand a (command_with_options name).top

abbrev pub program : App
program =
    with_command (codes "crew")
    (with_subcommand
    (with_command (codes "facts") (with_command (codes "assert") (with_command (codes "distinct") (with_subcommand (with_command (codes "run") without_commands) check_command.top)))) load_command.top)

-- what is read under a name: the number that its text is
abbrev pub ReadsGiven : Text → List Row → Option ℕ → Type 0
ReadsGiven name rows read = MatchOption read
    ((first_of name rows ≡ None) ⊎ ((text : Text) × (first_of name rows ≡ Some text) × (IsNumber text → one_of name rows ≡ Some text → ⊥)))
    (λ n. (text : Text) × (first_of name rows ≡ Some text) × IsNumber text × (one_of name rows ≡ Some text → n ≡ number_after 0 text))

-- what is read of an option: its default, or the number that its text is
abbrev pub ReadsNumber : ℕ → Text → List Row → Option ℕ → Type 0
ReadsNumber default name rows read = MatchOption read
    ((text : Text) × (first_of name rows ≡ Some text) × (IsNumber text → one_of name rows ≡ Some text → ⊥))
    (λ n. ((first_of name rows ≡ None) × (n ≡ default)) ⊎ ((text : Text) × (first_of name rows ≡ Some text) × IsNumber text × (one_of name rows ≡ Some text → n ≡ number_after 0 text)))

-- both options' numbers are read, or one isn't
abbrev pub ReadsOptions : List Row → Option Options → Type 0
ReadsOptions rows read = MatchOption read
    (ReadsNumber 4 (codes "workers") rows None ⊎ ReadsNumber default_budget (codes "budget") rows None)
    (λ o. ReadsNumber 4 (codes "workers") rows (Some o.workers) × ReadsNumber default_budget (codes "budget") rows (Some o.budget))

-- the number of workers isn't given, and the budget is read; or one of them isn't so
abbrev pub ReadsBudget : List Row → Option ℕ → Type 0
ReadsBudget rows read = MatchOption read
    ((first_of (codes "workers") rows ≢ None) ⊎ ReadsNumber default_budget (codes "budget") rows None)
    (λ n. (first_of (codes "workers") rows ≡ None) × ReadsNumber default_budget (codes "budget") rows (Some n))

-- the command with both options, where they are read
abbrev pub ReadsWithOptions : (ℕ → ℕ → Command) → List Row → Option Command → Type 0
ReadsWithOptions make rows said = MatchOption said (ReadsOptions rows None) (λ c. (o : Options) × ReadsOptions rows (Some o) × (c ≡ make o.workers o.budget))

-- the command with the budget alone, where it is read
abbrev pub ReadsWithBudget : (ℕ → Command) → List Row → Option Command → Type 0
ReadsWithBudget make rows said = MatchOption said (ReadsBudget rows None) (λ c. (budget : ℕ) × ReadsBudget rows (Some budget) × (c ≡ make budget))

-- `load` with its number and its workers, where they are read
abbrev pub ReadsLoad : List Row → Option Command → Type 0
ReadsLoad rows said = MatchOption said
    (ReadsGiven (codes "number") rows None ⊎ ReadsNumber 4 (codes "workers") rows None)
    (λ c. (number : ℕ) × (workers : ℕ) × ReadsGiven (codes "number") rows (Some number) × ReadsNumber 4 (codes "workers") rows (Some workers) × (c ≡ Load number workers))

-- what is read by the name of the command that was matched
pub record IsReadBy (found : Option (Text × List Row)) (said : Option Command) : Type 0 where
  pub run : (rows : List Row) → found ≡ Some (codes "run", rows) → ReadsWithOptions Run rows said
  pub distinct : (rows : List Row) → found ≡ Some (codes "distinct", rows) → ReadsWithOptions Distinct rows said
  pub crew : (rows : List Row) → found ≡ Some (codes "crew", rows) → ReadsWithOptions Crew rows said
  pub asserts : (rows : List Row) → found ≡ Some (codes "assert", rows) → ReadsWithBudget Assert rows said
  pub facts : (rows : List Row) → found ≡ Some (codes "facts", rows) → ReadsWithBudget Facts rows said
  pub load : (rows : List Row) → found ≡ Some (codes "load", rows) → ReadsLoad rows said
  pub check : (rows : List Row) → found ≡ Some (codes "check", rows) → said ≡ Some Check
