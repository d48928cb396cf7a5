use Rattle.std.proofs.Common.{◌≤◌, arith, subst, sym}
use Rattle.cnf_core.specs.Literal.{HasVarsUpTo}
use Rattle.sat_trail.proofs.Limits.{clauses_more, clause_small, all_taken}
use Rattle.sat_trail.proofs.highest.highest_of.Goals as goal

pub loop-clause-preserved : goal.loop-clause-preserved
loop-clause-preserved c =
    let was = c.loop-clause.invariant in
    let here = rw c.lits.ensures.lits at c.highest_in-highest.ensures.within in
    let least = rw c.lits.ensures.lits at c.highest_in-highest.ensures.least in
    let low : c.highest_in-highest.result ≤ 2147483647 = least 2147483647 (omega (arith, was.small)) (clause_small _ c.lits.ensures.clause) in
    record {
      at_least = omega (arith, was.at_least, c.highest_in-highest.ensures.at_least);
      within = clauses_more _ _ _ _ c.clause-item.result c.loop-clause-test.true c.highest_in-highest.ensures.at_least was.within (subst (HasVarsUpTo c.highest_in-highest.result) c.clause-item.is here);
      least = λ n h all. least n (was.least n h all) (subst (HasVarsUpTo n) (sym c.clause-item.is) (all c.loop-clause.clause-index c.clause-item.result c.loop-clause-test.true));
      small = omega arith;
    }

pub returns-clause-limit : goal.returns-clause-limit
returns-clause-limit c =
    let was = c.loop-clause.invariant in
    let full = all_taken (HasVarsUpTo c.loop-clause.highest) _ _ c.loop-clause-test.false was.within in
    record { at_least = was.at_least; within = full; least = was.least }
