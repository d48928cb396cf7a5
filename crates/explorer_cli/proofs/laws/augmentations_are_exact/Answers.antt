use Rattle.session_rules.specs.States.{Start}
use Rattle.explorer_cli.proofs.Replied.{augmented_at, next_floor, impossible_at}
use Rattle.explorer_cli.proofs.laws.augmentations_are_exact.Goals as goal

pub returns : goal.returns
returns c = record {
  augmented = λ p budget commands replies floors run. augmented_at p budget commands replies floors run c.a_run_is_sound.ensures;
  next = λ p budget commands replies floors run. next_floor p (Start budget) commands replies floors run.0 run.1;
  no_instance = λ p budget commands replies floors run. impossible_at p budget commands replies floors run c.a_run_is_sound.ensures;
}
