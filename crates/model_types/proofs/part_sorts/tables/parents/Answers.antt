use Rattle.std.proofs.Common.{arith}
use Rattle.model_types.proofs.Parts.Climbs.{parents_more, all_parents}
use Rattle.model_types.proofs.part_sorts.tables.parents.Goals as goal

pub loop-number-preserved : goal.loop-number-preserved
loop-number-preserved c =
    rw c.in_ok-push.ensures.items (parents_more c.args.signatures.now c.loop-number.number c.loop-number.table.items c.index-signatures-number.result c.above.result c.loop-number-test.true c.index-signatures-number.is c.above.ensures c.loop-number.invariant)

pub returns : goal.returns
returns c = all_parents c.args.signatures.now c.loop-number.number c.loop-number.table.items (omega arith) c.loop-number.invariant
