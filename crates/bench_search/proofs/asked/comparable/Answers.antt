use Rattle.std.proofs.Common.{◌+◌, ◌<◌, ℕ, sym, subst, arith}
use Rattle.rel_formula.specs.Shape.{IsProper}
use Rattle.bench_search.proofs.AskedLemmas.{within_about, either_about}
use Rattle.bench_search.proofs.asked.comparable.Goals as goal

pub returns : goal.returns
returns c = λ ns long ones.
    let n : ℕ = c.args.sets + 1 in
    let a : c.args.one < n = omega (arith, c.requires.one) in
    let b : c.args.other < n = omega (arith, c.requires.other) in
    subst (IsProper ns 0) (sym c.any_of.ensures)
    (either_about n c.in_ok-either.either.items _ _ c.in_ok-either.ensures.items (within_about n c.args.one c.args.other a b) (within_about n c.args.other c.args.one b a) ns long ones)
