use Rattle.std.proofs.Common.{◌<◌, length, arith, ap, ◌∙◌}
use Rattle.sat_trail.specs.Trailed.{Trailed}
use Rattle.sat_trail.proofs.Limits.{vars_weaker}
use Rattle.sat_trail.proofs.Trails.{filled_more, next_clause, named_is}
use Rattle.sat_trail.proofs.trail.Trail.fill_from.Goals as goal

pub put-requires-clause-vars : goal.put-requires-clause-vars
put-requires-clause-vars c = vars_weaker _ _ _ (omega (arith, c.requires.vars, ap (λ (t : Trailed). t.vars) c.loop-i.invariant)) c.clause.ensures.vars

pub put-requires-clause-unmarked : goal.put-requires-clause-unmarked
put-requires-clause-unmarked c = λ _. ap (λ (t : Trailed). t.assigned) c.loop-i.invariant ∙ c.requires.empty

pub loop-i-preserved : goal.loop-i-preserved
loop-i-preserved c =
    let below : c.loop-i.i < length c.args.f.now.clauses = omega (arith, c.loop-i-test.true, c.len-i-end.ensures.len) in
    filled_more _ _ _ _ _ _ c.loop-i.invariant c.in_ok-put.ensures.ok (next_clause _ _ _ below (named_is c.args.f.now.clauses c.loop-i.i c.clause.result.now c.clause.ensures.clause))
