use Rattle.std.proofs.Common.{subst}
use Rattle.cnf_core.specs.Formula.{Formula}
use Rattle.sat_trail.specs.Trailed.{IsBase}
use Rattle.minimiser.proofs.descent.minimise.Goals as goal

pub minimise_from-requires-clause-base : goal.minimise_from-requires-clause-base
minimise_from-requires-clause-base c = subst (λ (f : Formula). IsBase f c.in_ok-base.base) c.cnf-cnf.ensures c.in_ok-base.ensures.base
