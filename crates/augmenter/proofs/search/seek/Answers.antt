use Rattle.std.proofs.Common.{subst}
use Rattle.cnf_core.specs.Formula.{Formula}
use Rattle.sat_trail.specs.Trailed.{IsBase}
use Rattle.augmenter.proofs.search.seek.Goals as goal

pub seek_from-requires-clause-base : goal.seek_from-requires-clause-base
seek_from-requires-clause-base c = subst (λ (f : Formula). IsBase f c.in_ok-base.base) c.cnf-cnf.ensures c.in_ok-base.ensures.base
