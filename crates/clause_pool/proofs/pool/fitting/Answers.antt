use Rattle.std.proofs.Common.{◌≡◌, sym, ◌∙◌, ap, inl, inr, get_or, arith}
use Rattle.clause_pool.proofs.Fitting.{size_of, next_is_too_much}
use Rattle.clause_pool.proofs.pool.fitting.Goals as goal
use Rattle.clause_pool.proofs.pool.fitting.Goals.{then-pool_steps-i-via-then-pool_steps-i, then-pool_steps-i-via-else-pool_steps-i+then-more-room}

pub returns-then-pool_steps-i-clause-longest : goal.returns-then-pool_steps-i-clause-longest
returns-then-pool_steps-i-clause-longest c = λ pool long counted.
    let step = c.index-steps-i.result in
    let size : size_of (get_or c.args.steps.now c.loop-i.i step) ≡ c.size_of-more.result = ap size_of (sym c.index-steps-i.is) ∙ sym c.size_of-more.ensures in
    next_is_too_much pool c.args.steps.now c.loop-i.i step c.loop-i-test.true (omega arith) (omega arith)
    (elim c.then-pool_steps-i.branch [
      | then-pool_steps-i-via-then-pool_steps-i w ↦ inl (omega arith)
      | then-pool_steps-i-via-else-pool_steps-i+then-more-room w ↦ inr (omega arith)
    ])
