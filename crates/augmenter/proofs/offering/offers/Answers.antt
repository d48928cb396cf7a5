use Rattle.std.proofs.Common.{subst}
use Rattle.cnf_core.specs.Formula.{Formula}
use Rattle.sat_trail.specs.Trailed.{IsBase}
use Rattle.augmenter.proofs.offering.offers.Goals as goal

pub trail_with-requires-clause-base : goal.trail_with-requires-clause-base
trail_with-requires-clause-base c = subst (λ (f : Formula). IsBase f c.in_ok-base.base) c.cnf-cnf.ensures c.in_ok-base.ensures.base

pub offers_on-requires-clause-base : goal.offers_on-requires-clause-base
offers_on-requires-clause-base c = subst (λ (f : Formula). IsBase f c.in_ok-base.base) c.cnf-cnf.ensures c.in_ok-base.ensures.base
