use Rattle.rel_terms.proofs.Adding.{adds_both}
use Rattle.rel_terms.proofs.Counted.{counted}
use Rattle.rel_terms.proofs.operators.met.Goals as goal

pub returns : goal.returns
returns c = counted c.in_ok-both.ensures (adds_both _ _ _ _ _ c.add_size.ensures c.add_size-2.ensures)
