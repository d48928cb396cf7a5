use Rattle.std.proofs.Common.{refl, arith}
use Rattle.model_types.specs.Bounding.{through}
use Rattle.model_types.proofs.Bounds.SetsSoFar.{put, way_turn, way_end}
use Rattle.model_types.proofs.bounding_types.closure.through.Goals as goal

pub loop-top-init : goal.loop-top-init
loop-top-init c = λ t. refl

pub loop-top-preserved : goal.loop-top-preserved
loop-top-preserved c =
    let all = through c.args.tops.now c.args.pairs in
    way_turn c.args.tops.now c.loop-top.top-index _ _ c.loop-top.all c.in_ok-more.more c.put_all.new.all all c.loop-top-test.true refl
    c.loop-top.invariant c.in_ok-more.ensures (put c.loop-top.all c.put_all.new.all _ c.in_ok-more.more c.in_ok-put_all.ensures c.as_slice.ensures)

pub returns : goal.returns
returns c = way_end c.args.tops.now c.loop-top.top-index c.loop-top.all (through c.args.tops.now c.args.pairs) (omega arith) c.loop-top.invariant
