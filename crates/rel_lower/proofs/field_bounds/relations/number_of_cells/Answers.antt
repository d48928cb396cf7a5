use Rattle.std.proofs.Common.{arith}
use Rattle.tuple_core.proofs.Steps.{all_step}
use Rattle.rel_lower.proofs.Bounding.Cells.{AreSets, cells_counted}
use Rattle.rel_lower.proofs.field_bounds.relations.number_of_cells.Goals as goal

pub loop-relation-preserved : goal.loop-relation-preserved
loop-relation-preserved c =
    let all = cells_counted c.args.relations.now c.loop-relation.relation-index c.relation-item.result c.loop-relation-test.true c.relation-item.is in
    let before = c.loop-relation.invariant.count in
    let more = c.cells_of.ensures.count in
    let now = c.saturating_add-cells.ensures in
    record {
      count = omega (arith, all, before, more, now);
      sets = all_step AreSets c.args.relations.now c.loop-relation.relation-index c.relation-item.result c.loop-relation-test.true c.relation-item.is c.loop-relation.invariant.sets c.cells_of.ensures.sets;
    }
