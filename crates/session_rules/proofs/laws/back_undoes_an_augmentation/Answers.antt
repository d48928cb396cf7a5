use Rattle.std.proofs.Common.{List, ℕ, refl, ap, drop}
use Rattle.session_rules.specs.States.{after}
use Rattle.session_rules.specs.declared.answers.Reply.TheVariants.{Augmented}
use Rattle.session_rules.proofs.KeptFloors.{all_floors_stay}
use Rattle.session_rules.proofs.laws.back_undoes_an_augmentation.Goals as goal

pub returns : goal.returns
returns c = record {
  at_once = λ s floor. refl;
  later = λ s floor xs keep. ap (λ (zs : List (List ℕ)). drop 1 zs) (all_floors_stay (after s (Augmented floor)) xs keep);
}
