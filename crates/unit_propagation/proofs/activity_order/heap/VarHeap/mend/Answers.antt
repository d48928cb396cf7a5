use Rattle.std.proofs.Common.{arith}
use Rattle.unit_propagation.proofs.Activity.Steps.{mend_start, mend_once, mended, ranked_back}
use Rattle.unit_propagation.proofs.activity_order.heap.VarHeap.mend.Goals as goal

pub loop-at-init : goal.loop-at-init
loop-at-init c = mend_start _ _ c.requires.indexed

pub sink-requires-clause-ranked : goal.sink-requires-clause-ranked
sink-requires-clause-ranked c = ranked_back _ _ _ (omega (arith, c.loop-at-test.true)) c.loop-at.invariant.ranked

pub loop-at-preserved : goal.loop-at-preserved
loop-at-preserved c = mend_once _ _ _ _ _ c.loop-at.invariant c.sink.ensures.same c.sink.ensures.ranked

pub returns-clause-heap : goal.returns-clause-heap
returns-clause-heap c = mended _ _ _ _ (omega (arith, c.loop-at-test.false)) c.requires.long c.loop-at.invariant

pub returns-clause-same : goal.returns-clause-same
returns-clause-same c = c.loop-at.invariant.same.same
