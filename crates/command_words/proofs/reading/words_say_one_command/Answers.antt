use Rattle.command_words.proofs.CommandLemmas.{one_command}
use Rattle.command_words.proofs.reading.words_say_one_command.Goals as goal

pub returns : goal.returns
returns c = one_command
