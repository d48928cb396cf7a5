use Rattle.std.proofs.Common.{length, ap, subst, Contains, arith}
use Rattle.tuple_core.specs.Rows.{SetGains}
use Rattle.tuple_core.proofs.Congruence.{rows_same}
use Rattle.tuple_core.proofs.Steps.{set_same}
use Rattle.lowering_rules.specs.Relations.{InProduct}
use Rattle.rel_lower.proofs.Bounding.PlacedProducts.{product_large, grown_large}
use Rattle.rel_lower.proofs.field_bounds.products.add_product.Goals as goal

pub returns-then-rows-room : goal.returns-then-rows-room
returns-then-rows-room c =
    let e = ap length c.rows.ensures.value in
    let l = c.if-rows-room.true in
    product_large c.args.room (length c.args.tops.now) (Contains c.args.set.now.rows) c.in_ok-product.product (InProduct c.args.sizes.now c.args.tops.now) c.rows.ensures.well (omega arith) c.in_ok-product.ensures

pub returns-then-rows-room-2 : goal.returns-then-rows-room-2
returns-then-rows-room-2 c =
    let e = ap length c.rows-3.ensures.value in
    let l = c.if-rows-room-2.true in
    grown_large c.args.room (length c.args.tops.now) c.args.set.now c.add_rows.new.set c.in_ok-product.product (InProduct c.args.sizes.now c.args.tops.now) c.rows-3.ensures.well (omega arith) c.requires.arity
    (subst (λ rows. SetGains c.args.set.now c.add_rows.new.set (Contains rows)) c.rows-2.ensures.value c.in_ok-add_rows.ensures) c.in_ok-product.ensures

pub returns : goal.returns
returns c =
    let e = ap length c.rows-3.ensures.value in
    let l = c.if-rows-room-2.false in (
      set_same c.args.set.now c.add_rows.new.set (Contains c.in_ok-product.product.rows) (InProduct c.args.sizes.now c.args.tops.now) (rows_same c.in_ok-product.ensures)
          (subst (λ rows. SetGains c.args.set.now c.add_rows.new.set (Contains rows)) c.rows-2.ensures.value c.in_ok-add_rows.ensures),
      omega arith,
    )
