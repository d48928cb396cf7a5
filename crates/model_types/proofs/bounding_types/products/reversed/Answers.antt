use Rattle.std.proofs.Common.{ap, ◌∙◌, [], ◌∷◌, map, reverse, arith}
use Rattle.model_types.proofs.Bounds.SetsSoFar.{row_turn, whole, all_mapped}
use Rattle.model_types.proofs.bounding_types.products.reversed.Goals as goal

pub loop-list-preserved : goal.loop-list-preserved
loop-list-preserved c =
    row_turn (λ y. reverse y ∷ []) c.as_slice-lists.result.now c.loop-list.list-index c.list-item.result [] c.loop-list.all c.put.new.self
    (c.reverse.new.self.items ∷ []) c.loop-list-test.true c.list-item.is c.loop-list.invariant c.in_ok-put.ensures.ok
    (ap (λ y. y ∷ []) (c.reverse.ensures.items ∙ ap reverse (c.in_ok-turned.ensures.items ∙ c.deref.ensures.value)))

pub returns : goal.returns
returns c =
    whole (λ y. reverse y ∷ []) c.as_slice-lists.result.now c.loop-list.list-index [] c.loop-list.all c.args.a.now (map reverse c.args.a.now) (omega arith) c.as_slice-lists.ensures
    (all_mapped reverse c.args.a.now) c.loop-list.invariant
