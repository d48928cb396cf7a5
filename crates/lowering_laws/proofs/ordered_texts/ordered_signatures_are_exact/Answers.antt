use Rattle.lowering_laws.proofs.Orderings.Exact.{all_places}
use Rattle.lowering_laws.proofs.ordered_texts.ordered_signatures_are_exact.Goals as goal

pub returns : goal.returns
returns c = all_places
