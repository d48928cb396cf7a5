use Rattle.std.proofs.Common.{◌+◌, ◌∷◌, [], get_or, subst, sym}
use Rattle.std.proofs.lemmas.List.{get_or_default}
use Rattle.tuple_core.specs.Rows.{IsSetOf}
use Rattle.lowering_rules.specs.Relations.{InProduct}
use Rattle.rel_lower.proofs.Bounding.PlacedProducts.{one_more, rest_at}
use Rattle.rel_lower.proofs.field_bounds.products.product_of.Goals as goal

pub loop-top-preserved : goal.loop-top-preserved
loop-top-preserved c =
    let tops = c.args.tops.now in
    let i = c.loop-top.top-index in
    let rest = rest_at tops i c.loop-top-test.true in
    let x = get_or tops (i + 1) 0 in
    one_more c.args.sizes.now tops i x c.loop-top.tuples c.in_ok-places.places c.in_ok-tuples-2.tuples rest.0 (sym (get_or_default tops (i + 1) x 0 rest.0)) c.loop-top.invariant
    (subst (λ y. IsSetOf c.in_ok-places.places 1 (InProduct c.args.sizes.now (y ∷ []))) rest.1 c.in_ok-places.ensures) c.in_ok-tuples-2.ensures
