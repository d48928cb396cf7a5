use Rattle.std.proofs.Common.{◌∙◌, false, ap, sym}
use Rattle.cnf_core.specs.declared.literal.Lit.{Lit}
use Rattle.sat_trail.proofs.Heights.{highest_none, highest_more}
use Rattle.sat_trail.proofs.levels.highest_below.Goals as goal

pub loop-lit-init : goal.loop-lit-init
loop-lit-init c = highest_none _ _

pub loop-lit-preserved : goal.loop-lit-preserved
loop-lit-preserved c =
    let now = c.raised-highest.ensures in
    highest_more c.args.now.now.assigned c.args.lits.now c.loop-lit.lit-index (record { var = 0; positive = false }) c.args.below c.loop-lit.highest c.raised-highest.result c.level_of-level.result c.loop-lit-test.true c.loop-lit.invariant
    (λ i d h var. c.level_of-level.ensures i d h (var ∙ sym (ap (λ (l : Lit). l.var) c.code_of.ensures.literal))) now.at_least now.reaches now.either
