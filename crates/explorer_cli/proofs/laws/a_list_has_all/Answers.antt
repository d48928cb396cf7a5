use Rattle.explorer_cli.proofs.Replied.{list_due}
use Rattle.explorer_cli.proofs.laws.a_list_has_all.Goals as goal

pub returns : goal.returns
returns c p budget commands replies floors run = list_due p budget commands replies floors run c.a_run_is_sound.ensures c.an_all_lists_what_is_due.ensures
