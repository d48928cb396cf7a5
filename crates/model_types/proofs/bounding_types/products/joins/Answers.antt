use Rattle.std.proofs.Common.{refl, flat_map, [], arith}
use Rattle.model_types.specs.Bounding.{joined, joins}
use Rattle.model_types.specs.Bounds.Same.{lists_of}
use Rattle.model_types.proofs.Bounds.SetsSoFar.{row_turn, whole}
use Rattle.model_types.proofs.bounding_types.products.joins.Goals as goal

pub loop-left-preserved : goal.loop-left-preserved
loop-left-preserved c =
    row_turn (λ y. flat_map (joined y) c.args.b.now) c.as_slice-lists.result.now c.loop-left.left-index c.left-item.result [] c.loop-left.all c.put_joins.new.all
    (flat_map (joined c.deref.result.now) (lists_of c.as_slice.result.now)) c.loop-left-test.true c.left-item.is c.loop-left.invariant c.in_ok-put_joins.ensures
    (λ i. flat_map (joined (c.deref.ensures.value i)) (c.as_slice.ensures i))

pub returns : goal.returns
returns c =
    whole (λ y. flat_map (joined y) c.args.b.now) c.as_slice-lists.result.now c.loop-left.left-index [] c.loop-left.all c.args.a.now (joins c.args.a.now c.args.b.now)
    (omega arith) c.as_slice-lists.ensures refl c.loop-left.invariant
