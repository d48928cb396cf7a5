use Rattle.std.proofs.Common.{List, All, length, arith, ap, subst, sym}
use Rattle.cnf_core.specs.declared.literal.Lit.{Lit}
use Rattle.cnf_core.specs.Literal.{HasVarsUpTo}
use Rattle.sat_core.specs.declared.search.Answer.{Answer}
use Rattle.sat_core.specs.Kept.{IsKept}
use Rattle.sat_core.specs.Search.{IsAnswerTo}
use Rattle.solver_tests.proofs.of_kept_search.listed.Goals as goal

pub gone_on-requires-clause-kept : goal.gone_on-requires-clause-kept
gone_on-requires-clause-kept c = subst (λ (ls : List (List Lit)). IsKept c.args.f.now ls c.args.pool.now c.loop-number.search) (sym c.as_slice.ensures.value) c.loop-number.invariant.kept

pub gone_on-requires-clause-few : goal.gone_on-requires-clause-few
gone_on-requires-clause-few c = omega (arith, c.requires.few, c.requires.none, c.loop-number.invariant.few, c.loop-number-test.true, ap length c.as_slice.ensures.value)

pub block_valuation-requires-clause-kept : goal.block_valuation-requires-clause-kept
block_valuation-requires-clause-kept c = subst (λ (ls : List (List Lit)). IsKept c.args.f.now ls c.args.pool.now c.gone_on.new.search) c.as_slice.ensures.value c.in_ok-answer.ensures.kept

pub block_valuation-requires-clause-few : goal.block_valuation-requires-clause-few
block_valuation-requires-clause-few c = omega (arith, c.requires.few, c.requires.none, c.loop-number.invariant.few, c.loop-number-test.true)

pub block_valuation-requires-clause-enough : goal.block_valuation-requires-clause-enough
block_valuation-requires-clause-enough c = (subst (λ (a : Answer). IsAnswerTo c.args.f.now c.as_slice.result.now c.args.pool.now 1000 a) c.in-Found.is c.in_ok-answer.ensures.answer).right.0.enough

pub left_out-requires-clause-log : goal.left_out-requires-clause-log
left_out-requires-clause-log c =
    let right = subst (λ (a : Answer). IsAnswerTo c.args.f.now c.as_slice.result.now c.args.pool.now 1000 a) c.in-Refuted.is c.in_ok-answer.ensures.answer in
    let locals = subst (λ (ls : List (List Lit)). All (HasVarsUpTo c.args.f.now.vars) ls) (sym c.as_slice.ensures.value) c.loop-number.invariant.locals in
    right.in_range c.args.f.now.vars c.vars-vars.ensures.formula.within locals (λ k d h. absurd (omega (arith, h, c.requires.none)))

pub left_out-requires-clause-steps : goal.left_out-requires-clause-steps
left_out-requires-clause-steps c = c.in_ok-answer.ensures.kept.holds.within

pub loop-number-preserved : goal.loop-number-preserved
loop-number-preserved c =
    let now = c.in_ok-block_valuation-in-Found.ensures in
    record {
      kept = now.kept;
      few = omega (arith, now.few, c.loop-number.invariant.few);
      room = omega (arith, ap length now.steps, c.in_ok-answer.ensures.room);
      locals = now.locals;
    }
