use Rattle.std.proofs.Common.{◌∙◌, codes, ap}
use Rattle.clap.specs.Simple.{App, with_subcommand}
use Rattle.command_words.specs.Program.{check_command, load_command, with_command}
use Rattle.command_words.proofs.reading.program.Goals as goal

pub returns : goal.returns
returns c =
    c.in_ok-program-7.ensures ∙ ap (with_command (codes "crew")) (c.in_ok-program-6.ensures ∙ ap (λ (a : App). with_subcommand a load_command.top) (c.in_ok-program-5.ensures
    ∙ ap (with_command (codes "facts")) (c.in_ok-program-4.ensures ∙ ap (with_command (codes "assert")) (c.in_ok-program-3.ensures
    ∙ ap (with_command (codes "distinct")) (c.in_ok-program-2.ensures ∙ ap (λ (a : App). with_subcommand a check_command.top) (c.in_ok-program.ensures ∙ ap (with_command (codes "run")) c.without_commands-program.ensures))))))
