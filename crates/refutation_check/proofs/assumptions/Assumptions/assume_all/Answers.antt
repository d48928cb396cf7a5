use Rattle.std.proofs.Common.{◌≡◌, take, ap}
use Rattle.refutation_check.specs.Assumed.{Assumed}
use Rattle.refutation_check.proofs.Keeping.{next_open}
use Rattle.refutation_check.proofs.assumptions.Assumptions.assume_all.Goals as goal

pub assume-requires-clause-is_open : goal.assume-requires-clause-is_open
assume-requires-clause-is_open c =
    let falses : c.loop-lit.self.falses ≡ take c.loop-lit.lit-index c.args.lits.now = ap (λ (a : Assumed). a.falses) c.loop-lit.invariant.assumed in
    rw falses (next_open _ c.loop-lit.lit-index _ c.loop-lit-test.true c.requires.clause.rising)
