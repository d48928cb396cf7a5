use Rattle.std.proofs.Common.{◌≡◌, ap, sym, ◌∙◌, subst}
use Rattle.cnf_core.specs.Literal.{HasVarsUpTo}
use Rattle.sat_trail.specs.Trailed.{Trailed}
use Rattle.sat_trail.proofs.Trails.{filled_more, next_clause}
use Rattle.sat_trail.proofs.trail.Trail.fill_with.Goals as goal

pub put-requires-clause-vars : goal.put-requires-clause-vars
put-requires-clause-vars c =
    let vars : c.loop-clause.self.vars ≡ c.args.self.now.vars = ap (λ (t : Trailed). t.vars) c.loop-clause.invariant in
    rw vars (subst (HasVarsUpTo c.args.self.now.vars) (sym c.clause-item.is) (c.requires.vars c.loop-clause.clause-index c.clause-item.result c.loop-clause-test.true))

pub put-requires-clause-unmarked : goal.put-requires-clause-unmarked
put-requires-clause-unmarked c = λ _. ap (λ (t : Trailed). t.assigned) c.loop-clause.invariant ∙ c.requires.empty

pub loop-clause-preserved : goal.loop-clause-preserved
loop-clause-preserved c = filled_more _ _ _ _ _ _ c.loop-clause.invariant c.in_ok-put.ensures.ok (next_clause _ _ _ c.loop-clause-test.true c.clause-item.is)
