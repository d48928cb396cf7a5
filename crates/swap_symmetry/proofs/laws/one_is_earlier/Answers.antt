use Rattle.std.proofs.Common.{inl, inr}
use Rattle.swap_symmetry.proofs.ScenarioOrders.{compared, only_one}
use Rattle.swap_symmetry.proofs.laws.one_is_earlier.Goals as goal

pub returns : goal.returns
returns c = record {
  total = λ p s t is it other. elim (compared s t is.rising it.rising) [ inl e ↦ absurd (other e) | inr one ↦ one ];
  asymmetric = only_one;
  irreflexive = λ s e. e.2 e.1;
}
