use Rattle.std.proofs.Common.{◌∙◌}
use Rattle.alloy_types.proofs.Order.{fault_there, fault_past}
use Rattle.alloy_types.proofs.paragraphs.fault_at.Goals as goal

pub returns-in-Some : goal.returns-in-Some
returns-in-Some g c = c.fault_of.ensures ∙ fault_there c.args.outcomes.now c.args.number c.in-Some.outcome.now c.in-Some.ensures.lookup.1 c.in-Some.ensures.lookup.3.0

pub returns-in-None : goal.returns-in-None
returns-in-None g c = fault_past c.args.outcomes.now c.args.number c.in-None.ensures.lookup.3
