use Rattle.std.proofs.Common.{length, arith, ap}
use Rattle.sat_core.proofs.Answered.{stopped_answer, refuted_answer}
use Rattle.sat_core.proofs.search.refuted_by.Goals as goal

pub returns-then-steps-budget-clause-answer : goal.returns-then-steps-budget-clause-answer
returns-then-steps-budget-clause-answer c =
    stopped_answer c.args.f.now c.args.local.now c.args.pool.now c.args.budget c.args.steps c.requires.so_far c.args.last c.requires.empty c.requires.chain (omega (arith, ap length c.steps.ensures.steps, c.if-steps-budget.true))

pub returns-clause-answer : goal.returns-clause-answer
returns-clause-answer c =
    refuted_answer c.args.f.now c.args.local.now c.args.pool.now c.args.budget c.args.steps c.requires.so_far c.args.last c.requires.empty c.requires.chain _ c.requires.pool
    (omega (arith, c.requires.budget, ap length c.steps.ensures.steps, c.if-steps-budget.false)) c.in_ok-push.ensures.ok
