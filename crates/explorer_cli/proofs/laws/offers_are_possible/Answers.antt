use Rattle.explorer_cli.proofs.Replied.{offers_at}
use Rattle.explorer_cli.proofs.laws.offers_are_possible.Goals as goal

pub returns : goal.returns
returns c = record {
  exactly = λ p budget commands replies floors run. offers_at p budget commands replies floors run c.a_run_is_sound.ensures;
  outside = λ p commands replies floors place floor cells x cell in'. ((x.offers.exactly cell).0 in').absent;
}
