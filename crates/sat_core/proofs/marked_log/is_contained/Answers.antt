use Rattle.std.proofs.Common.{All, arith, subst}
use Rattle.std.proofs.lemmas.List.{take_all}
use Rattle.std.proofs.lemmas.List.Elements.{All-more}
use Rattle.refutation_check.specs.declared.log.Step.{Step}
use Rattle.refutation_check.specs.Chain.{Subsumes}
use Rattle.sat_core.proofs.marked_log.is_contained.Goals as goal

pub loop-place-preserved : goal.loop-place-preserved
loop-place-preserved c =
    All-more (λ (s : Step). ¬ Subsumes c.args.clause.now s.clause) c.args.steps.now c.loop-place.place c.index-steps-place.result c.loop-place-test.true c.loop-place.invariant
    (λ there. let t = c.contains.ensures.1 (rw c.index-steps-place.is there) in let f = c.if-contains.false in absurd cc)

pub returns : goal.returns
returns c = subst (All (λ (s : Step). ¬ Subsumes c.args.clause.now s.clause)) (take_all c.loop-place.place c.args.steps.now (omega (arith, c.loop-place-test.false))) c.loop-place.invariant
