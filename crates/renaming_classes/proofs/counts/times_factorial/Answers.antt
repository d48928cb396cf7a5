use Rattle.std.proofs.Common.{◌≡◌, ℕ, Option, MatchOption, ◌*◌, ◌+◌, ◌<◌, ◌≤◌, ◌∙◌, sym, ap, subst, arith}
use Rattle.renaming_classes.specs.Counts.{factorial}
use Rattle.renaming_classes.proofs.Factorials.{next_fits, next_factorial}
use Rattle.renaming_classes.proofs.counts.times_factorial.Goals as goal

pub returns-in_err-product : goal.returns-in_err-product
returns-in_err-product c =
    let n = c.loop-factor.factor in
    let total = c.args.start * factorial c.args.count in
    let fits = subst (λ k. k * (n + 1) ≤ total) (sym c.loop-factor.invariant.value) (next_fits c.args.start n c.args.count c.loop-factor-test.true) in
    let more : 40320 < c.loop-factor.product * (n + 1) = c.in_err-product.ensures in
    let told : 40320 < total = omega arith in
    subst (λ (o : Option ℕ). MatchOption o (40320 < total) (λ n. (n ≡ total) × (1 ≤ n) × (n ≤ 40320))) (sym c.from_residual.ensures) told

pub loop-factor-preserved : goal.loop-factor-preserved
loop-factor-preserved c =
    let n = c.loop-factor.factor in
    let next = c.in_ok-product.ensures in
    record {
      value = next.0 ∙ ap (λ k. k * (n + 1)) c.loop-factor.invariant.value ∙ next_factorial c.args.start n;
      some = next.1;
      few = next.2;
    }
