use Rattle.explorer_cli.proofs.Replied.{shows_due}
use Rattle.explorer_cli.proofs.laws.shown_are_due.Goals as goal

pub returns : goal.returns
returns c p budget commands replies floors run = shows_due p budget commands replies floors run c.a_run_is_sound.ensures
