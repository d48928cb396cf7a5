use Rattle.explorer_cli.proofs.Replied.{ends_at}
use Rattle.explorer_cli.proofs.laws.an_end_shows_all.Goals as goal

pub returns : goal.returns
returns c p budget commands replies floors run = ends_at p budget commands replies floors run c.a_run_is_sound.ensures
