use Rattle.explorer_cli.proofs.Replied.{part_at}
use Rattle.explorer_cli.proofs.laws.parts_are_as_many_as_were_asked.Goals as goal

pub returns : goal.returns
returns c p budget commands replies floors run = part_at p budget commands replies floors run
