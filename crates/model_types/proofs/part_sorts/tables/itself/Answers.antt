use Rattle.model_types.proofs.Parts.Climbs.{themselves_more, themselves}
use Rattle.model_types.proofs.part_sorts.tables.itself.Goals as goal

pub loop-number-preserved : goal.loop-number-preserved
loop-number-preserved c = rw c.in_ok-push.ensures.items (themselves_more c.loop-number.number c.loop-number.table.items c.loop-number.invariant)

pub returns-clause-each : goal.returns-clause-each
returns-clause-each c = themselves c.loop-number.number c.loop-number.table.items c.loop-number.invariant
