use Rattle.std.proofs.Common.{◌≡◌, ◌*◌, ◌<◌, ◌≤◌, ℕ, Option, MatchOption, sym, subst, ◌∙◌, suc, ap, arith}
use Rattle.renaming_classes.specs.Counts.{factorial, orders}
use Rattle.renaming_classes.proofs.Factorials.{orders_grow}
use Rattle.renaming_classes.proofs.counts.orders.Goals as goal

pub returns-in_err-product : goal.returns-in_err-product
returns-in_err-product c =
    let atoms = c.args.atoms.now in
    let top = c.loop-top.top in
    let fits = orders_grow atoms (suc top) c.args.tops (let t = c.loop-top-test.true in omega arith) in
    let same : c.loop-top.product * factorial c.count.result ≡ orders atoms (suc top) =
    ap (λ k. k * factorial c.count.result) c.loop-top.invariant.value ∙ ap (λ k. orders atoms top * factorial k) c.count.ensures in
    let more : 40320 < c.loop-top.product * factorial c.count.result = c.in_err-product.ensures in
    let told : 40320 < orders atoms c.args.tops = omega arith in
    subst (λ (o : Option ℕ). MatchOption o (40320 < orders atoms c.args.tops) (λ n. (n ≡ orders atoms c.args.tops) × (n ≤ 40320))) (sym c.from_residual.ensures) told
