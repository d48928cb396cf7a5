use Rattle.std.proofs.Common.{refl}
use Rattle.named_model.specs.Texts.{tree_of}
use Rattle.lowering_rules.proofs.laws.rows_are_lowered.Goals as goal

pub returns-clause-bodies : goal.returns-clause-bodies
unfolding tree_of
returns-clause-bodies c = refl

pub returns-clause-calls : goal.returns-clause-calls
unfolding tree_of
returns-clause-calls c = refl

pub returns-clause-signatures : goal.returns-clause-signatures
unfolding tree_of
returns-clause-signatures c = refl

pub returns-clause-fields : goal.returns-clause-fields
unfolding tree_of
returns-clause-fields c = refl

pub returns-clause-facts : goal.returns-clause-facts
unfolding tree_of
returns-clause-facts c = refl

pub returns-clause-relations : goal.returns-clause-relations
unfolding tree_of
returns-clause-relations c = refl

pub returns-clause-refusals : goal.returns-clause-refusals
unfolding tree_of
returns-clause-refusals c = (refl, (refl, (refl, ((_, refl, refl), ((_, refl, refl), tt)))))
