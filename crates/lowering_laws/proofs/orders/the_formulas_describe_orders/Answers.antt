use Rattle.lowering_laws.proofs.Orderings.Said.{describes}
use Rattle.lowering_laws.proofs.orders.the_formulas_describe_orders.Goals as goal

pub returns : goal.returns
returns c = describes
