use Rattle.std.proofs.Common.{refl, sym, ap, flat_map, arith}
use Rattle.std.specs.List.{list_any}
use Rattle.std.proofs.lemmas.List.{append-nil}
use Rattle.model_types.specs.Bounding.{joined}
use Rattle.model_types.specs.Bounds.Same.{lists_of}
use Rattle.model_types.proofs.Bounds.SetsSoFar.{row_turn, whole}
use Rattle.model_types.proofs.bounding_types.products.put_joins.Goals as goal

pub loop-right-init : goal.loop-right-init
loop-right-init c = λ t. ap (list_any t) (sym (append-nil c.args.all.now))

pub loop-right-preserved : goal.loop-right-preserved
loop-right-preserved c =
    row_turn (joined c.args.left.now) c.args.lists.now c.loop-right.right-index c.right-item.result c.args.all.now c.loop-right.all c.put_joined.new.all
    (joined c.args.left.now c.deref.result.now) c.loop-right-test.true c.right-item.is c.loop-right.invariant c.in_ok-put_joined.ensures
    (ap (joined c.args.left.now) c.deref.ensures.value)

pub returns : goal.returns
returns c =
    let lists = lists_of c.args.lists.now in
    whole (joined c.args.left.now) c.args.lists.now c.loop-right.right-index c.args.all.now c.loop-right.all lists (flat_map (joined c.args.left.now) lists) (omega arith) refl refl c.loop-right.invariant
