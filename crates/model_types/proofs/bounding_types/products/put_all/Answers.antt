use Rattle.std.proofs.Common.{refl, sym, ap, [], ◌∷◌, arith}
use Rattle.std.specs.List.{list_any}
use Rattle.std.proofs.lemmas.List.{append-nil}
use Rattle.model_types.specs.Bounds.Same.{lists_of}
use Rattle.model_types.proofs.Bounds.SetsSoFar.{row_turn, whole, each_alone}
use Rattle.model_types.proofs.bounding_types.products.put_all.Goals as goal

pub loop-list-init : goal.loop-list-init
loop-list-init c = λ t. ap (list_any t) (sym (append-nil c.args.all.now))

pub loop-list-preserved : goal.loop-list-preserved
loop-list-preserved c =
    row_turn (λ y. y ∷ []) c.args.lists.now c.loop-list.list-index c.list-item.result c.args.all.now c.loop-list.all c.put_if.new.all (c.deref.result.now ∷ [])
    c.loop-list-test.true c.list-item.is c.loop-list.invariant c.in_ok-put_if.ensures (ap (λ y. y ∷ []) c.deref.ensures.value)

pub returns : goal.returns
returns c =
    let lists = lists_of c.args.lists.now in
    whole (λ y. y ∷ []) c.args.lists.now c.loop-list.list-index c.args.all.now c.loop-list.all lists lists (omega arith) refl (each_alone lists) c.loop-list.invariant
