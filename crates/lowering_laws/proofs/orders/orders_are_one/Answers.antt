use Rattle.lowering_laws.proofs.Orderings.Said.{one_order}
use Rattle.lowering_laws.proofs.orders.orders_are_one.Goals as goal

pub returns : goal.returns
returns c = one_order
