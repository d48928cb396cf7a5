use Rattle.std.proofs.Common.{◌≤◌, false, arith}
use Rattle.cnf_core.specs.declared.literal.Lit.{Lit}
use Rattle.sat_trail.proofs.Limits.{vars_more, all_taken}
use Rattle.sat_trail.proofs.highest.highest_in.Goals as goal
use Rattle.sat_trail.proofs.highest.highest_in.Goals.{then-lit-highest, else-lit-highest}

pub loop-lit-preserved : goal.loop-lit-preserved
loop-lit-preserved c =
    let was = c.loop-lit.invariant in
    elim c.if-lit-highest.branch [
      | then-lit-highest w ↦ record {
        at_least = omega (arith, was.at_least, w.highest-is, w.if-lit-highest.true);
        within = vars_more _ _ _ _ (record { var = 0; positive = false }) c.loop-lit-test.true (omega (arith, w.highest-is, w.if-lit-highest.true)) was.within (omega (arith, w.highest-is));
        least = λ n h all. let low = all c.loop-lit.lit-index (record { var = 0; positive = false }) c.loop-lit-test.true in omega (arith, low, w.highest-is);
      }
      | else-lit-highest w ↦ record {
        at_least = omega (arith, was.at_least, w.highest-is);
        within = vars_more _ _ _ _ (record { var = 0; positive = false }) c.loop-lit-test.true (omega (arith, w.highest-is)) was.within (omega (arith, w.highest-is, w.if-lit-highest.false));
        least = λ n h all. let low = was.least n h all in omega (arith, low, w.highest-is);
      }
    ]

pub returns-clause-within : goal.returns-clause-within
returns-clause-within c = all_taken (λ (l : Lit). l.var ≤ c.loop-lit.highest) _ _ c.loop-lit-test.false c.loop-lit.invariant.within
