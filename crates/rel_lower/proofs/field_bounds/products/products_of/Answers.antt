use Rattle.std.proofs.Common.{Contains, length, ap, sym, ◌∙◌, subst, arith}
use Rattle.std.proofs.lemmas.Result.{err_from_is_err_and}
use Rattle.tuple_core.specs.Operators.{United}
use Rattle.tuple_core.specs.Gains.{SomeGives}
use Rattle.tuple_core.specs.Rows.{SetGains}
use Rattle.tuple_core.proofs.Steps.{set_more, set_all, set_from_gains}
use Rattle.lowering_rules.specs.Relations.{InProduct, InProducts}
use Rattle.model_types.specs.Bounds.Same.{lists_of}
use Rattle.rel_lower.proofs.Bounding.EvenLists.{long_at}
use Rattle.rel_lower.proofs.Bounding.PlacedProducts.{InProductOf, some_products, comes_from, weaker_too_large}
use Rattle.rel_lower.proofs.field_bounds.products.products_of.Goals as goal

pub add_product-requires-clause-low : goal.add_product-requires-clause-low
add_product-requires-clause-low c =
    let long = long_at c.args.arity c.args.lists.now c.loop-list.list-index c.list-item.result c.requires.long c.loop-list-test.true c.list-item.is in
    let same = ap length c.deref.ensures.value in
    let low = c.requires.low in
    omega (arith, long, same, low)

pub add_product-requires-clause-high : goal.add_product-requires-clause-high
add_product-requires-clause-high c =
    let long = long_at c.args.arity c.args.lists.now c.loop-list.list-index c.list-item.result c.requires.long c.loop-list-test.true c.list-item.is in
    let same = ap length c.deref.ensures.value in
    let high = c.requires.high in
    omega (arith, long, same, high)

pub add_product-requires-clause-arity : goal.add_product-requires-clause-arity
add_product-requires-clause-arity c =
    let long = long_at c.args.arity c.args.lists.now c.loop-list.list-index c.list-item.result c.requires.long c.loop-list-test.true c.list-item.is in
    let same = ap length c.deref.ensures.value in
    c.loop-list.invariant.gains.arity ∙ c.new-tuples.ensures.arity ∙ sym (same ∙ long)

pub returns-in_err-add_product : goal.returns-in_err-add_product
returns-in_err-add_product c =
    let p = err_from_is_err_and c.from_residual.result c.from_residual.ensures.1 in
    rw (p.1, p.2) (weaker_too_large c.args.room (United (Contains c.loop-list.tuples.rows) (InProduct c.args.sizes.now c.deref.result.now)) (InProducts c.args.sizes.now (lists_of c.args.lists.now)) c.in_err-add_product.field-0.0
    (λ t. comes_from c.args.sizes.now c.args.lists.now c.loop-list.list-index c.list-item.result c.deref.result.now c.new-tuples.result c.loop-list.tuples t c.loop-list-test.true c.list-item.is c.deref.ensures.value c.new-tuples.ensures.rows c.loop-list.invariant.gains)
    c.in_err-add_product.ensures)

pub loop-list-preserved : goal.loop-list-preserved
loop-list-preserved c = record {
  gains = set_more c.args.lists.now c.loop-list.list-index c.list-item.result (InProductOf c.args.sizes.now) c.new-tuples.result c.loop-list.tuples c.add_product.new.set c.loop-list-test.true c.list-item.is c.loop-list.invariant.gains
      (subst (λ tops. SetGains c.loop-list.tuples c.add_product.new.set (InProduct c.args.sizes.now tops)) c.deref.ensures.value c.in_ok-add_product.ensures.0);
  few = c.in_ok-add_product.ensures.1;
}

pub returns : goal.returns
returns c = (
  set_from_gains c.new-tuples.result c.loop-list.tuples c.args.arity (SomeGives c.args.lists.now (InProductOf c.args.sizes.now)) (InProducts c.args.sizes.now (lists_of c.args.lists.now)) c.new-tuples.ensures.rows c.new-tuples.ensures.arity
      (set_all c.args.lists.now c.loop-list.list-index (InProductOf c.args.sizes.now) c.new-tuples.result c.loop-list.tuples (omega arith) c.loop-list.invariant.gains) (some_products c.args.sizes.now c.args.lists.now),
  c.loop-list.invariant.few,
)
