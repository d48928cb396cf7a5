use Rattle.std.proofs.Common.{◌≤◌, All, arith, subst}
use Rattle.std.proofs.lemmas.List.{take_all}
use Rattle.sat_core.proofs.Numbers.{highest_more, highest_small}
use Rattle.sat_core.proofs.search.highest_in.Goals as goal

pub loop-lit-preserved : goal.loop-lit-preserved
loop-lit-preserved c =
    let was = c.loop-lit.invariant in
    record {
      first = omega (arith, was.first, c.max-highest.ensures);
      lits = highest_more c.args.lits.now c.loop-lit.lit-index _ c.loop-lit.highest _ c.loop-lit-test.true was.lits c.max-highest.ensures;
      small = highest_small c.args.lits.now c.loop-lit.lit-index _ c.loop-lit.highest _ c.loop-lit-test.true c.requires.lits was.small c.max-highest.ensures;
    }

pub returns-clause-lits : goal.returns-clause-lits
returns-clause-lits c = subst (All (λ x. x.var ≤ c.loop-lit.highest)) (take_all c.loop-lit.lit-index c.args.lits.now c.loop-lit-test.false) c.loop-lit.invariant.lits
