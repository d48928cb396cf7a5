use Rattle.std.proofs.Common.{refl}
use Rattle.rel_terms.proofs.Adding.{adds_both}
use Rattle.rel_terms.proofs.operators.lessened.Goals as goal

pub returns : goal.returns
returns c = record {
  arity_is = refl;
  just = λ l t. (λ h. h, λ h. h);
  adds = adds_both _ _ _ _ _ c.add_size.ensures c.add_size-2.ensures;
}
