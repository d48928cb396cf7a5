use Rattle.std.proofs.Common.{◌≤◌, ℕ, All, arith, subst}
use Rattle.std.proofs.lemmas.List.{take_all}
use Rattle.clause_pool.proofs.Fitting.{all_more}
use Rattle.hub_tests.proofs.of_clause_pool.is_from_one.Goals as goal

pub loop-hint-preserved : goal.loop-hint-preserved
loop-hint-preserved c = all_more (λ (hint : ℕ). 1 ≤ hint) c.args.hints.now c.loop-hint.hint-index 0 c.loop-hint-test.true c.loop-hint.invariant (omega arith)

pub returns : goal.returns
returns c = subst (All (λ (hint : ℕ). 1 ≤ hint)) (take_all c.loop-hint.hint-index c.args.hints.now c.loop-hint-test.false) c.loop-hint.invariant
