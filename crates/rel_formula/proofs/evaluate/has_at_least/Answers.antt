use Rattle.tuple_core.proofs.Steps.{then_same}
use Rattle.rel_formula.proofs.Counts.{at_least_of, leb-decides}
use Rattle.rel_formula.proofs.evaluate.has_at_least.Goals as goal

pub returns : goal.returns
returns c = then_same (leb-decides c.args.n c.in_ok-size.field-0) (at_least_of c.args.n c.in_ok-size.field-0 c.in_ok-size.ensures)
