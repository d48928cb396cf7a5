use Rattle.std.proofs.Common.{All, Contains, get_or, subst, arith}
use Rattle.std.proofs.lemmas.List.{get_or_default}
use Rattle.std.proofs.lemmas.List.Elements.{All-contains}
use Rattle.tuple_core.proofs.Steps.{all_step, all_done}
use Rattle.solver_tests.proofs.of_minimiser.includes.Goals as goal

pub loop-cell-preserved : goal.loop-cell-preserved
loop-cell-preserved c =
    let xs = c.numbers-cell-items.result.now in
    let i = c.loop-cell.cell-index in
    let n = get_or xs i 0 in
    all_step (Contains c.args.scenario.now) xs i n c.loop-cell-test.true (get_or_default xs i 0 n c.loop-cell-test.true) c.loop-cell.invariant (c.has.ensures.0 c.if-not-has.false)

pub returns : goal.returns
returns c = λ e n has.
    let all = all_done (Contains c.args.scenario.now) c.numbers-cell-items.result.now c.loop-cell.cell-index (omega arith) c.loop-cell.invariant in
    All-contains (Contains c.args.scenario.now) c.args.floor.now n (subst (All (Contains c.args.scenario.now)) c.numbers-cell-items.ensures.value all) has
