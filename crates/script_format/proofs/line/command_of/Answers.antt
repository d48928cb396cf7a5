use Rattle.std.proofs.Common.{arith}
use Rattle.script_format.proofs.Placed.{no_command}
use Rattle.script_format.proofs.line.command_of.Goals as goal

pub returns-in_default : goal.returns-in_default
returns-in_default c = no_command c.args.session c.args.words.now (λ e. omega arith) (λ e. omega arith) (λ e. omega arith)
