use Rattle.bench.proofs.Powered.{one_power, product_power}
use Rattle.bench.proofs.powers.triples.Goals as goal

pub returns-clause-all : goal.returns-clause-all
returns-clause-all c =
    let atoms = c.args.atoms.now in
    let one = one_power atoms c.rows.ensures.well c.requires.arity in
    product_power atoms atoms c.in_ok-ends.ends c.in_ok-all.all one c.in_ok-ends.ensures.all c.in_ok-all.ensures
