use Rattle.std.proofs.Common.{◌+◌, ◌*◌, arith}
use Rattle.sat_trail.proofs.Waiting.{closed_code, open_code, open_behind, valued_more}
use Rattle.sat_trail.proofs.deciding.lowest_open.Goals as goal

pub loop-place-init : goal.loop-place-init
loop-place-init c = c.requires.from

pub loop-place-preserved : goal.loop-place-preserved
loop-place-preserved c =
    valued_more _ _ c.loop-place.invariant (closed_code _ (c.loop-place.place + 1) (2 * c.loop-place.place + 2) c.value.result _ (omega arith) c.value.ensures c.is_none.ensures c.if-is_none.false)

pub returns-then-is_none : goal.returns-then-is_none
returns-then-is_none c =
    open_behind _ _ _ c.loop-place-test.true c.loop-place.invariant (open_code _ (c.loop-place.place + 1) (2 * c.loop-place.place + 2) c.value.result _ (omega arith) c.value.ensures c.is_none.ensures c.if-is_none.true)

pub returns : goal.returns
returns c = λ var low high. c.loop-place.invariant var low (omega (arith, high, c.loop-place-test.false))
