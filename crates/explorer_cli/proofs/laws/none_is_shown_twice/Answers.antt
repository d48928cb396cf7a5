use Rattle.explorer_cli.proofs.Replied.{apart, partly_once, listed_once}
use Rattle.explorer_cli.proofs.laws.none_is_shown_twice.Goals as goal

pub returns : goal.returns
returns c = record {
  apart = λ p budget commands replies floors run. apart p budget commands replies floors run c.a_run_is_sound.ensures;
  partly = λ p budget commands replies floors run. partly_once p budget commands replies floors run c.a_run_is_sound.ensures;
  listed = λ p budget commands replies floors run. listed_once p budget commands replies floors run c.a_run_is_sound.ensures;
}
