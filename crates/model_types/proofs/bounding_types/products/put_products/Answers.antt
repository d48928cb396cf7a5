use Rattle.std.proofs.Common.{refl, sym, ap, ◌∙◌, [], ◌∷◌, ◌++◌, map, arith}
use Rattle.std.specs.List.{list_any}
use Rattle.std.proofs.lemmas.List.{append-nil}
use Rattle.model_types.specs.Bounds.Same.{lists_of}
use Rattle.model_types.proofs.Bounds.SetsSoFar.{row_turn, whole, all_mapped}
use Rattle.model_types.proofs.bounding_types.products.put_products.Goals as goal

pub loop-right-init : goal.loop-right-init
loop-right-init c = λ t. ap (list_any t) (sym (append-nil c.args.all.now))

pub loop-right-preserved : goal.loop-right-preserved
loop-right-preserved c =
    row_turn (λ r. (c.args.left.now ++ r) ∷ []) c.args.lists.now c.loop-right.right-index c.right-item.result c.args.all.now c.loop-right.all c.put.new.self
    (c.in_ok-appended.field-0.items ∷ []) c.loop-right-test.true c.right-item.is c.loop-right.invariant c.in_ok-put.ensures.ok
    (ap (λ y. y ∷ []) (c.in_ok-appended.ensures ∙ ap (λ r. c.args.left.now ++ r) c.deref.ensures.value))

pub returns : goal.returns
returns c =
    let lists = lists_of c.args.lists.now in
    whole (λ r. (c.args.left.now ++ r) ∷ []) c.args.lists.now c.loop-right.right-index c.args.all.now c.loop-right.all lists (map (λ r. c.args.left.now ++ r) lists) (omega arith) refl
    (all_mapped (λ r. c.args.left.now ++ r) lists) c.loop-right.invariant
