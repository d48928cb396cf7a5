-- Commands that ask for something.
use Rattle.std.specs.Prelude.{◌≤◌}
use Rattle.session_words.specs.declared.commands.Command.{Command}
use Rattle.session_words.specs.declared.commands.Command.TheVariants as command

-- a command that asks for several scenarios asks for one at least
abbrev pub AsksForSome : Command → Type 0
AsksForSome (command.Step step) = Unit {0}
AsksForSome (command.All n) = 1 ≤ n
