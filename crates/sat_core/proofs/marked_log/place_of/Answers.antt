use Rattle.std.proofs.Common.{arith, ap, false}
use Rattle.std.proofs.lemmas.List.{get_or_default}
use Rattle.cnf_core.specs.declared.literal.Lit.{Lit}
use Rattle.sat_core.proofs.Merged.{below_more}
use Rattle.sat_core.proofs.marked_log.place_of.Goals as goal

pub passing-init : goal.passing-init
passing-init c = record { within = c.requires; later = omega arith; below = λ i d le h. absurd (omega (arith, le, h)) }

pub passing-preserved : goal.passing-preserved
passing-preserved c =
    let was = c.passing.invariant in
    record {
      within = omega (arith, c.passing-test.true);
      later = omega (arith, was.later);
      below = below_more c.args.lits.now c.args.from c.passing.at c.args.var (record { var = 0; positive = false }) c.passing-test.true was.below c.if-lits-at.true;
    }

pub returns-else-lits-at-clause-here : goal.returns-else-lits-at-clause-here
returns-else-lits-at-clause-here c =
    let d : Lit = record { var = 0; positive = false } in
    λ e h. omega (arith, c.if-lits-at.false, ap (λ (l : Lit). l.var) (get_or_default c.args.lits.now c.passing.at d e h))

pub returns-after-passing-clause-here : goal.returns-after-passing-clause-here
returns-after-passing-clause-here c = λ e h. absurd (omega (arith, h, c.passing-test.false))
