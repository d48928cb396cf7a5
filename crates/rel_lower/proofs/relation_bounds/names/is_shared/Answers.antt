use Rattle.rel_lower.proofs.Placing.Counts.{count_more}
use Rattle.std.proofs.Common.{arith}
use Rattle.rel_lower.proofs.relation_bounds.names.is_shared.Goals as goal

pub loop-field-preserved : goal.loop-field-preserved
loop-field-preserved c = record {
  count = count_more c.args.fields.now c.loop-field.field-index c.field-item.result c.args.name.now c.loop-field.count c.number_of-count.result
      c.loop-field-test.true c.field-item.is c.loop-field.invariant.count c.number_of-count.ensures.value;
  few = let a = c.loop-field.invariant.few in let b = c.number_of-count.ensures.few in omega arith;
}
