use Rattle.lowering_laws.proofs.Orderings.Calls.{calls_become}
use Rattle.lowering_laws.proofs.ordered_texts.calls_become_what_names_stand_for.Goals as goal

pub returns : goal.returns
returns c = calls_become
