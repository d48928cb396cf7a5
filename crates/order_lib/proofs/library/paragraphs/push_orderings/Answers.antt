use Rattle.order_lib.specs.Library.{paragraphs_of}
use Rattle.order_lib.proofs.Pushes.{part_more}
use Rattle.order_lib.proofs.library.paragraphs.push_orderings.Goals as goal

pub loop-ordering-preserved : goal.loop-ordering-preserved
loop-ordering-preserved c =
    part_more paragraphs_of c.args.opens.now _ _ _ c.loop-ordering.ordering-index c.ordering-item.result c.loop-ordering-test.true c.ordering-item.is c.loop-ordering.invariant c.in_ok-push_ordering.ensures
