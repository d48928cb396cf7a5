use Rattle.std.proofs.Common.{List, false, subst}
use Rattle.std.proofs.lemmas.List.{take_all}
use Rattle.cnf_core.specs.declared.literal.Lit.{Lit}
use Rattle.sat_trail.proofs.Heights.{AreTwoHighest, highest_below_two, two_more, two_none}
use Rattle.sat_trail.proofs.levels.level_below_two.Goals as goal

pub loop-lit-init : goal.loop-lit-init
loop-lit-init c = two_none c.args.now.now.assigned c.args.next

pub loop-lit-preserved : goal.loop-lit-preserved
loop-lit-preserved c =
    let level = c.level_or_next-level.ensures in
    let two = c.two_highest-highest.ensures in
    two_more c.args.now.now.assigned c.args.lits.now c.loop-lit.lit-index (record { var = 0; positive = false }) c.args.next c.loop-lit.highest c.two_highest-highest.result c.level_or_next-level.result c.requires.clause c.loop-lit-test.true
    level.from level.within level.highest two.first two.second c.loop-lit.invariant

pub returns : goal.returns
returns c =
    let assigned = c.args.now.now.assigned in
    let lits = c.args.lits.now in
    let most : AreTwoHighest assigned lits c.args.next c.loop-lit.highest = subst (λ (ls : List Lit). AreTwoHighest assigned ls c.args.next c.loop-lit.highest) (take_all c.loop-lit.lit-index lits c.loop-lit-test.false) c.loop-lit.invariant in
    highest_below_two assigned lits c.args.next c.loop-lit.highest c.saturating_sub.result c.requires.next c.saturating_sub.ensures most
