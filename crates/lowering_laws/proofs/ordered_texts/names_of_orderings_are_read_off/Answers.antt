use Rattle.lowering_laws.proofs.Orderings.Split.{values_read_off}
use Rattle.lowering_laws.proofs.ordered_texts.names_of_orderings_are_read_off.Goals as goal

pub returns : goal.returns
returns c = values_read_off
