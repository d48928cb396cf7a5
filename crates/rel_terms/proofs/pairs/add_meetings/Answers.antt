use Rattle.rel_terms.proofs.MeetingTuples.{meetings_more, meetings_all, meetings_above}
use Rattle.rel_terms.proofs.pairs.add_meetings.Goals as goal

pub returns-then-is_above : goal.returns-then-is_above
returns-then-is_above c =
    meetings_above c.args.left.now.rows c.args.right.now.rows c.rows-row-items.result.now c.loop-row.row-index c.args.times _ _ c.rows-row-items.ensures.value c.loop-row.invariant (c.is_above.ensures.0 c.if-is_above.true)

pub loop-row-preserved : goal.loop-row-preserved
loop-row-preserved c =
    meetings_more c.args.left.now c.args.right.now.rows c.rows-rights.result.now c.rows-row-items.result.now c.loop-row.row-index c.row-item.result c.last.result c.starting.result.now c.args.times _ _ _
    c.rows-row-items.ensures.value c.rows-rights.ensures.value c.rows-row-items.ensures.well c.loop-row-test.true c.row-item.is c.last.ensures c.starting.ensures.ascending c.starting.ensures.just c.loop-row.invariant c.add_product.ensures

pub returns : goal.returns
returns c =
    meetings_all c.args.left.now.rows c.args.right.now.rows c.rows-row-items.result.now c.loop-row.row-index c.args.times _ _ c.rows-row-items.ensures.value c.loop-row-test.false c.loop-row.invariant
