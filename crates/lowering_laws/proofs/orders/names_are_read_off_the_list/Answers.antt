use Rattle.lowering_laws.proofs.Orderings.Reading.{read_off}
use Rattle.lowering_laws.proofs.orders.names_are_read_off_the_list.Goals as goal

pub returns : goal.returns
returns c = read_off
