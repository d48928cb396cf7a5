use Rattle.std.proofs.Common.{ap, ◌∙◌, [], ◌∷◌, if◌then◌else◌, arith}
use Rattle.model_types.specs.Bounding.{has, start_of, starting_in}
use Rattle.model_types.proofs.Bounds.SetsSoFar.{row_turn, whole, keeping, all_kept}
use Rattle.model_types.proofs.bounding_types.products.starting_in.Goals as goal

pub loop-list-preserved : goal.loop-list-preserved
loop-list-preserved c =
    row_turn (keeping (λ y. has c.args.starts.now (start_of y))) c.as_slice-lists.result.now c.loop-list.list-index c.list-item.result [] c.loop-list.all c.put_if.new.all
    (if c.contains.result then c.deref-in-loop-list.result.now ∷ [] else []) c.loop-list-test.true c.list-item.is c.loop-list.invariant c.in_ok-put_if.ensures
    (λ i. if (c.contains.ensures ∙ ap (has c.args.starts.now) (c.start_of.ensures ∙ ap start_of c.deref.ensures.value)) i then c.deref-in-loop-list.ensures.value i ∷ [] else [])

pub returns : goal.returns
returns c =
    whole (keeping (λ y. has c.args.starts.now (start_of y))) c.as_slice-lists.result.now c.loop-list.list-index [] c.loop-list.all c.args.a.now (starting_in c.args.starts.now c.args.a.now) (omega arith) c.as_slice-lists.ensures
    (all_kept (λ y. has c.args.starts.now (start_of y)) c.args.a.now) c.loop-list.invariant
