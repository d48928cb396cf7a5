use Rattle.std.proofs.Common.{◌≡◌, length, arith, ap}
use Rattle.solver_tests.proofs.of_sat_core.answer.Goals as goal

pub is_refuted-requires : goal.is_refuted-requires
is_refuted-requires c =
    let bound = rw c.in-Refuted.is at c.in_ok-valuation.ensures.in_range in
    let no_pool : length c.new.result ≡ 0 = ap length c.new.ensures in
    bound c.args.f.now.vars c.vars-vars.ensures.formula.within (λ k d h. absurd (omega (arith, h))) (λ k d h. absurd (omega (arith, h, no_pool)))
