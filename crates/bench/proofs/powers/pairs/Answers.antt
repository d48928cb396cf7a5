use Rattle.bench.proofs.Powered.{one_power, product_power}
use Rattle.bench.proofs.powers.pairs.Goals as goal

pub returns-clause-all : goal.returns-clause-all
returns-clause-all c =
    let atoms = c.args.atoms.now in
    let one = one_power atoms c.rows.ensures.well c.requires.arity in
    product_power atoms atoms atoms c.in_ok-all.all one one c.in_ok-all.ensures
