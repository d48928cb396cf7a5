use Rattle.std.proofs.Common.{All, Contains, get_or, refl, subst, arith}
use Rattle.std.proofs.lemmas.List.{get_or_default}
use Rattle.std.proofs.lemmas.List.Elements.{All-contains}
use Rattle.tuple_core.proofs.Steps.{all_step, all_done}
use Rattle.samples.proofs.exhaustive_search.minimal.includes.Goals as goal

pub loop-number-preserved : goal.loop-number-preserved
loop-number-preserved c =
    let xs = c.numbers-number-items.result.now in
    let i = c.loop-number.number-index in
    let n = get_or xs i 0 in
    all_step (Contains c.args.scenario.now) xs i n c.loop-number-test.true (get_or_default xs i 0 n c.loop-number-test.true) c.loop-number.invariant (c.has.ensures.0 c.if-not-has.false)

pub returns : goal.returns
returns c =
    let all = all_done (Contains c.args.scenario.now) c.numbers-number-items.result.now c.loop-number.number-index (omega arith) c.loop-number.invariant in
    (λ e n has. All-contains (Contains c.args.scenario.now) c.args.part.now n (subst (All (Contains c.args.scenario.now)) c.numbers-number-items.ensures.value all) has, λ h. refl)
