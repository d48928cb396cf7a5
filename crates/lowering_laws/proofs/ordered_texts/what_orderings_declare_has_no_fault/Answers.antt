use Rattle.lowering_laws.proofs.Orderings.Faultless.{faultless}
use Rattle.lowering_laws.proofs.ordered_texts.what_orderings_declare_has_no_fault.Goals as goal

pub returns : goal.returns
returns c = faultless
