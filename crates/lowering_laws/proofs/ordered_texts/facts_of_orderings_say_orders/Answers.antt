use Rattle.lowering_laws.proofs.Orderings.Split.{facts_are_all, splits}
use Rattle.lowering_laws.proofs.ordered_texts.facts_of_orderings_say_orders.Goals as goal

pub returns-clause-behind : goal.returns-clause-behind
returns-clause-behind c = facts_are_all

pub returns-clause-split : goal.returns-clause-split
returns-clause-split c = splits c.problems_are_one.ensures
